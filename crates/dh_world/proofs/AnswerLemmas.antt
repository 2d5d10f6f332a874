-- An answer's text is read back as that answer.
use Rattle.std.proofs.Common.{◌≡◌, ℕ, ◌<◌, ◌^◌, Bool, List, [], Option, Some, None, codes, refl, sym, ◌∙◌, ap, arith, append-nil, rules, cond, IsTrue, lt-ltb}
use Rattle.std.specs.Prelude.{option_and_then, nat_lt}
use Rattle.json.specs.Token.{Token}
use Rattle.json.specs.Lex.{tokens}
use Rattle.json.specs.Json as json
use Rattle.json.specs.Tree.{json_tokens}
use Rattle.json.specs.Print.{ArePrintable}
use Rattle.json.proofs.Printed.Decimals.{IsNumber-decimal}
use Rattle.json.proofs.Printed.Tokens.{tokens-print}
use Rattle.json.proofs.Printed.Trees.{value-json_tokens}
use Rattle.serde_json.specs.Data.{Data, boolean, number, unsigned, string, object, member, no_members}
use Rattle.serde_json.specs.Read.{read, of_json, max_depth}
use Rattle.serde_json.specs.Written.{compact_text, outline}
use Rattle.dh_texts.specs.Texts.{is_slug}
use Rattle.dh_world.specs.declared.answer.Answer.{Answer}
use Rattle.dh_world.specs.declared.answer.Answer.TheVariants.{Done, Made, Known, Stored, Added}
use Rattle.dh_world.specs.Answers.{IsAnswer, json_of, answer_in, answer_of}
use Rattle.serde_json.proofs.Texts.{print-outline}
use Rattle.serde_json.proofs.Numbers.{number_of-decimal}

abbrev whole : Option (json.Json × List Token) → Option Data
whole o = option_and_then of_json (option_and_then (λ p. json.if_last p.0 p.1) o)

abbrev known : List ℕ → Data
known slug = object (member (codes "answer") (string (codes "known")) (member (codes "slug") (string slug) no_members))

abbrev made : List ℕ → Bool → Bool → Bool → Data
made slug active hidden private = object (member (codes "active") (boolean active) (member (codes "answer") (string (codes "made"))
    (member (codes "hidden") (boolean hidden) (member (codes "private") (boolean private) (member (codes "slug") (string slug) no_members)))))

abbrev stored : ℕ → Data
stored pages = object (member (codes "answer") (string (codes "stored")) (member (codes "pages") (number (unsigned pages)) no_members))

pub known_reads : (slug : List ℕ) → read (compact_text (known slug)) ≡ Some (known slug)
unfolding ArePrintable
known_reads slug =
    let again : tokens (compact_text (known slug)) ≡ json_tokens (outline (known slug)) = ap tokens (sym (print-outline (known slug))) ∙ tokens-print (json_tokens (outline (known slug))) (search rules) in
    ap whole (ap (json.value max_depth) (again ∙ sym (append-nil _)) ∙ value-json_tokens (outline (known slug)) max_depth [] (omega arith))

pub made_reads : (slug : List ℕ) (a b c : Bool) → read (compact_text (made slug a b c)) ≡ Some (made slug a b c)
unfolding ArePrintable
made_reads slug a b c =
    let again : tokens (compact_text (made slug a b c)) ≡ json_tokens (outline (made slug a b c)) = ap tokens (sym (print-outline (made slug a b c))) ∙ tokens-print (json_tokens (outline (made slug a b c))) (search rules) in
    ap whole (ap (json.value max_depth) (again ∙ sym (append-nil _)) ∙ value-json_tokens (outline (made slug a b c)) max_depth [] (omega arith))

pub stored_reads : (n : ℕ) → n < 2 ^ 64 → read (compact_text (stored n)) ≡ Some (stored n)
unfolding ArePrintable
stored_reads n h =
    let is = IsNumber-decimal n h in
    let again : tokens (compact_text (stored n)) ≡ json_tokens (outline (stored n)) = ap tokens (sym (print-outline (stored n))) ∙ tokens-print (json_tokens (outline (stored n))) (search rules) in
    ap whole (ap (json.value max_depth) (again ∙ sym (append-nil _)) ∙ value-json_tokens (outline (stored n)) max_depth [] (omega arith)) ∙ rw (number_of-decimal n h) refl

told : {A : Type 0} {x y : A} → ◌≡◌ {A = Option A} (Some x) (Some y) → x ≡ y
told e = cc

slug_passes : (slug : List ℕ) → IsTrue (is_slug slug) → cond (is_slug slug) (Some slug) None ≡ Some slug
slug_passes slug h = rw h refl

few_pass : (n : ℕ) → n < 2 ^ 32 → cond (nat_lt n (2 ^ 32)) (Some n) None ≡ Some n
few_pass n h = rw (lt-ltb n (2 ^ 32) h) refl

-- what was written is told again
pub told_again : (a : Answer) (text : List ℕ) → IsAnswer a → json_of a ≡ Some text → answer_of text ≡ Some a
told_again Done text is e = absurd (cc)
told_again (Added count) text is e = absurd (cc)
told_again (Made slug x y z) text is e = ap answer_of (sym (told e)) ∙ ap (option_and_then answer_in) (made_reads slug x y z) ∙ rw (slug_passes slug is) refl
told_again (Known slug) text is e = ap answer_of (sym (told e)) ∙ ap (option_and_then answer_in) (known_reads slug) ∙ rw (slug_passes slug is) refl
told_again (Stored n) text is e = ap answer_of (sym (told e)) ∙ ap (option_and_then answer_in) (stored_reads n (omega arith)) ∙ rw (few_pass n is) refl

pub not_read : (text : List ℕ) → read text ≡ None → (a : Answer) → IsAnswer a → json_of a ≡ Some text → ⊥
not_read text r a is e = let x = told_again a text is e in let y = ap (option_and_then answer_in) r in cc

pub not_told : (d : Data) (text : List ℕ) → read text ≡ Some d → answer_in d ≡ None → (a : Answer) → IsAnswer a → json_of a ≡ Some text → ⊥
not_told d text r n a is e = let x = told_again a text is e in let y = ap (option_and_then answer_in) r in cc

pub told_otherwise : (d : Data) (text other : List ℕ) (b : Answer) → read text ≡ Some d → answer_in d ≡ Some b → json_of b ≡ Some other → (other ≡ text → ⊥) → (a : Answer) → IsAnswer a → json_of a ≡ Some text → ⊥
told_otherwise d text other b r n j differs a is e =
    let x = told_again a text is e in
    let y = ap (option_and_then answer_in) r in
    let same : a ≡ b = cc in
    differs (let z = ap json_of same in cc)
