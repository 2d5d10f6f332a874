-- What is sent is what is done.
use Rattle.std.proofs.Common.{◌≡◌, ◌≢◌, ◌∙◌, ℕ, ◌+◌, ◌==◌, ◌&&◌, Bool, true, false, cond, List, [], ◌∷◌, ◌++◌, length, take, drop, map, append-nil, Option, Some, None, Result, inl, inr, refl, sym, ap, ap₂, subst, arith, option_map}
use Rattle.std.specs.Prelude.{nat_eq, nat_lt, is_some, slice_index, option_and_then, position}
use Rattle.std.specs.List.{All, flat_map, join_by, position_or_len, slice_split}
use Rattle.std.specs.Cmp.Lexicographic.{pointwise}
use Rattle.std.specs.Str.{IsUtf8}
use Rattle.std.proofs.lemmas.List.{append_assoc, length-append, get_or_at, take_at, drop_at}
use Rattle.std.proofs.lemmas.List.Elements.{All-head, All-tail}
use Rattle.std.proofs.lemmas.List.Splits.{slice_split_at, slice_split_none}
use Rattle.std.proofs.lemmas.Bool.Decides.{nat_tests}
use Rattle.std.proofs.lemmas.Slice.Eq.{bytes_eq-Decides}
use Rattle.std.proofs.lemmas.Str.{IsUtf8-append}
use Rattle.dh_lines.specs.Lines.{line_in}
use Rattle.dh_script.specs.Running.{words_in}
use Rattle.dh_script.specs.declared.fault.ScriptFault.{ScriptFault}
use Rattle.dh_world.specs.World.{Text, World}
use Rattle.dh_control.specs.Answers.{DoesBody, DoesBy, DoesFor, DoesImport, DoesList, DoesMessage, DoesNone, DoesOneLine, DoesRest, DoesSent, DoesSentLine, DoesWords, IsWord, end_of_other}
use Rattle.dh_control.specs.Messages.{behind, body_of, head_of, host_and_list, import_mark, import_message, is_nul, line_mark, line_message, rest_for, version_mark, words_joined, words_mark, words_message}
use Rattle.dh_control.specs.declared.end.End.{End}
use Rattle.dh_control.specs.declared.end.End.TheVariants.{Elsewhere, Unknown}
use Rattle.dh_control.proofs.Cuts.{length_more}
use Rattle.dh_control.proofs.Words.{small_text}

-- ---- words

flat_map_seen : {X : Type 0} (f : X → Text) (mark : Text) (xs : List X) → flat_map (λ x. mark ++ f x) xs ≡ flat_map (λ word. mark ++ word) (map f xs)
flat_map_seen f mark [] = refl
flat_map_seen f mark (x ∷ xs) = ap (λ rest. (mark ++ f x) ++ rest) (flat_map_seen f mark xs)

-- words are joined as they are seen
pub joined_seen : {X : Type 0} (f : X → Text) (xs : List X) → join_by f (0 ∷ []) xs ≡ words_joined (map f xs)
joined_seen f [] = refl
joined_seen f (x ∷ xs) = ap (λ rest. f x ++ rest) (flat_map_seen f (0 ∷ []) xs)

-- and found again
split_joined : (word : Text) (words : List Text) → IsWord word → All IsWord words → slice_split is_nul (words_joined (word ∷ words)) ≡ word ∷ words
split_joined word [] is are = ap (slice_split is_nul) (append-nil word) ∙ slice_split_none is_nul word is.1
split_joined word (next ∷ words) is are =
    slice_split_at is_nul word 0 (words_joined (next ∷ words)) is.1 refl ∙ ap (λ rest. word ∷ rest) (split_joined next words (All-head IsWord next words are) (All-tail IsWord next words are))

joined_text : (word : Text) (words : List Text) → IsWord word → All IsWord words → IsUtf8 (words_joined (word ∷ words))
joined_text word [] is are = subst IsUtf8 (sym (append-nil word)) is.0
joined_text word (next ∷ words) is are =
    IsUtf8-append word (0 ∷ words_joined (next ∷ words)) is.0
    (IsUtf8-append (0 ∷ []) (words_joined (next ∷ words)) (small_text (0 ∷ []) refl) (joined_text next words (All-head IsWord next words are) (All-tail IsWord next words are)))

-- ---- a host and a list

nul_at : (host list : Text) → All (λ byte. is_nul byte ≡ false) host → position_or_len is_nul (host ++ 0 ∷ list) ≡ length host
nul_at [] list are = refl
nul_at (byte ∷ host) list are =
    let first : is_nul byte ≡ false = All-head (λ b. is_nul b ≡ false) byte host are in
    let rest = nul_at host list (All-tail (λ b. is_nul b ≡ false) byte host are) in
    grind (arith, first, rest)

parts_found : (host list : Text) → All (λ byte. is_nul byte ≡ false) host → host_and_list (host ++ 0 ∷ list) ≡ Some (host, list)
parts_found host list are =
    let sent = host ++ 0 ∷ list in
    let at = nul_at host list are in
    let within : nat_lt (position_or_len is_nul sent) (length sent) ≡ true = grind (arith, nat_tests, at, length-append host (0 ∷ list)) in
    let found : position is_nul sent ≡ Some (length host) = ap (λ b. cond b (Some (position_or_len is_nul sent)) None) within ∙ ap (λ n. Some n) at in
    ap (option_map (λ n. (take n sent, drop (n + 1) sent))) found
    ∙ ap₂ (λ h l. Some (h, l)) (take_at host (0 ∷ list) (length host) refl)
    (ap (λ t. drop (length host + 1) t) (sym (append_assoc host (0 ∷ []) list))
    ∙ drop_at (host ++ 0 ∷ []) list (length host + 1) (omega (arith, length-append host (0 ∷ []))))

-- ---- two names

-- a text without LF
abbrev IsOneLine : Text → Type 0
IsOneLine text = All (λ byte. (byte == 10) ≡ false) text

-- a head of another name is none of this one
apart : (file other rest : Text) → IsOneLine file → IsOneLine other → file ≢ other
    → option_and_then (behind (10 ∷ [])) (behind file (other ++ 10 ∷ rest)) ≡ None
apart [] [] rest mine its differ = absurd (differ refl)
apart [] (o ∷ os) rest mine its differ =
    let first : (o == 10) ≡ false = All-head (λ b. (b == 10) ≡ false) o os its in
    grind (arith, first)
apart (f ∷ fs) [] rest mine its differ =
    let first : (f == 10) ≡ false = All-head (λ b. (b == 10) ≡ false) f fs mine in
    grind (arith, first)
apart (f ∷ fs) (o ∷ os) rest mine its differ =
    by (nat_eq f o) refl (λ tails. apart fs os rest (All-tail (λ b. (b == 10) ≡ false) f fs mine) (All-tail (λ b. (b == 10) ≡ false) o os its) tails)
  where
    by : (b : Bool) → nat_eq f o ≡ b → (fs ≢ os → option_and_then (behind (10 ∷ [])) (behind fs (os ++ 10 ∷ rest)) ≡ None)
        → option_and_then (behind (10 ∷ [])) (behind (f ∷ fs) (o ∷ os ++ 10 ∷ rest)) ≡ None
    by true is others =
        let same : f ≡ o = grind (arith, nat_tests, is) in
        let tails : fs ≢ os = λ same_tail. differ (ap₂ (λ x xs. x ∷ xs) same same_tail) in
        ap (λ b. option_and_then (behind (10 ∷ [])) (cond (b && pointwise nat_eq fs (take (length fs) (os ++ 10 ∷ rest))) (Some (drop (length fs) (os ++ 10 ∷ rest))) None)) is
        ∙ others tails
    by false is others =
        ap (λ b. option_and_then (behind (10 ∷ [])) (cond (b && pointwise nat_eq fs (take (length fs) (os ++ 10 ∷ rest))) (Some (drop (length fs) (os ++ 10 ∷ rest))) None)) is

-- ---- messages

body_found : (body : Text) → body_of (body ++ 255 ∷ []) ≡ Some body
body_found body =
    ap (λ n. cond (slice_index (body ++ 255 ∷ []) n == 255) (Some (take n (body ++ 255 ∷ []))) None) (length_more body 255)
    ∙ ap (λ b. cond (b == 255) (Some (take (length body) (body ++ 255 ∷ []))) None) (get_or_at body 255 [] 0 (length body) refl)
    ∙ ap (λ b. Some b) (take_at body (255 ∷ []) (length body) refl)

-- what was put behind a mark
behind_own : (mark rest : Text) → behind mark (mark ++ rest) ≡ Some rest
behind_own mark rest =
    ap (λ front. cond (pointwise nat_eq mark front) (Some (drop (length mark) (mark ++ rest))) None) (take_at mark rest (length mark) refl)
    ∙ ap (λ b. cond b (Some (drop (length mark) (mark ++ rest))) None) ((bytes_eq-Decides mark mark).1 refl)
    ∙ ap (λ b. Some b) (drop_at mark rest (length mark) refl)

-- what stands behind the version of a head
named : (file rest : Text) → behind version_mark (head_of file ++ rest) ≡ Some (file ++ 10 ∷ rest)
named file rest =
    ap (behind version_mark) (append_assoc (version_mark ++ file) (10 ∷ []) rest ∙ append_assoc version_mark file (10 ∷ rest))
    ∙ behind_own version_mark (file ++ 10 ∷ rest)

-- what was put behind a head
rest_found : (file rest : Text) → rest_for file (head_of file ++ rest) ≡ Some rest
rest_found file rest =
    ap (λ o. option_and_then (behind (10 ∷ [])) (option_and_then (behind file) o)) (named file rest)
    ∙ ap (λ o. option_and_then (behind (10 ∷ [])) o) (behind_own file (10 ∷ rest))
    ∙ behind_own (10 ∷ []) rest

module _ (moment : ℕ) (before after : World) (held now : Option Text) (result : Result End ScriptFault) where
  -- what a body does
  body_done : (file body : Text) → DoesMessage moment file (body ++ 255 ∷ []) before after held now result
      → DoesBody moment file (Some body) before after held now result
  body_done file body does = subst (λ b. DoesBody moment file b before after held now result) (body_found body) does

  -- what stands behind its head
  rest_done : (file mark sent : Text) → DoesMessage moment file (head_of file ++ mark ++ sent ++ 255 ∷ []) before after held now result
      → DoesRest moment (mark ++ sent) before after held now result
  rest_done file mark sent does =
      let body = head_of file ++ mark ++ sent in
      let rest : rest_for file body ≡ Some (mark ++ sent) = ap (rest_for file) (append_assoc (head_of file) mark sent) ∙ rest_found file (mark ++ sent) in
      subst (λ r. DoesFor moment body r before after held now result) rest (body_done file body does)

  sent_done : (sent : Text) (words : List Text) → IsUtf8 sent → slice_split is_nul sent ≡ words → DoesSent moment sent before after held now result
      → DoesWords moment before (line_in words) after held now result
  sent_done sent words is split (inl does) = subst (λ ws. DoesWords moment before (line_in ws) after held now result) split does.1
  sent_done sent words is split (inr none) = absurd (none.0 is)

  pub words_done : (file word : Text) (words : List Text) → IsWord word → All IsWord words
      → DoesMessage moment file (words_message file (word ∷ words)) before after held now result
      → DoesWords moment before (line_in (word ∷ words)) after held now result
  words_done file word words is are does =
      let sent = words_joined (word ∷ words) in
      let rest = words_mark ++ sent in
      let at = subst (λ s. DoesBy moment s (behind line_mark rest) (behind import_mark rest) before after held now result) (behind_own words_mark sent) (rest_done file words_mark sent does) in
      sent_done sent (word ∷ words) (joined_text word words is are) (split_joined word words is are) at

  line_sent : (line : Text) → IsUtf8 line → DoesSentLine moment line before after held now result
      → DoesOneLine moment before (line_in (words_in line)) after held now result
  line_sent line is (inl does) = does.1
  line_sent line is (inr none) = absurd (none.0 is)

  pub line_done : (file line : Text) → IsUtf8 line → DoesMessage moment file (line_message file line) before after held now result
      → DoesOneLine moment before (line_in (words_in line)) after held now result
  line_done file line is does =
      let rest = line_mark ++ line in
      let other : behind words_mark rest ≡ None = refl in
      let at = subst (λ s. DoesBy moment s (behind line_mark rest) (behind import_mark rest) before after held now result) other (rest_done file line_mark line does) in
      line_sent line is (subst (λ s. DoesBy moment None s (behind import_mark rest) before after held now result) (behind_own line_mark line) at)

  -- ---- an import

  list_sent : (host list : Text) → IsUtf8 host → DoesImport moment before (Some (host, list)) after held now result
      → DoesList moment before host list after held now result
  list_sent host list is (inl does) = does.1
  list_sent host list is (inr none) = absurd (none.0 is)

  pub import_done : (file host list : Text) → IsWord host → DoesMessage moment file (import_message file host list) before after held now result
      → DoesList moment before host list after held now result
  import_done file host list is does =
      let sent = host ++ 0 ∷ list in
      let rest = import_mark ++ sent in
      let whole : import_message file host list ≡ head_of file ++ import_mark ++ sent ++ 255 ∷ [] =
      ap (λ t. t ++ 255 ∷ []) (append_assoc (head_of file ++ import_mark) host (0 ∷ list)) in
      let behind_head = rest_done file import_mark sent (subst (λ m. DoesMessage moment file m before after held now result) whole does) in
      let no_words : behind words_mark rest ≡ None = refl in
      let no_line : behind line_mark rest ≡ None = refl in
      let first = subst (λ s. DoesBy moment s (behind line_mark rest) (behind import_mark rest) before after held now result) no_words behind_head in
      let second = subst (λ s. DoesBy moment None s (behind import_mark rest) before after held now result) no_line first in
      let third = subst (λ s. DoesBy moment None None s before after held now result) (behind_own import_mark sent) second in
      list_sent host list is.0 (subst (λ parts. DoesImport moment before parts after held now result) (parts_found host list is.1) third)

  -- ---- another file

  pub other_left : (file other rest : Text) → IsOneLine file → IsOneLine other → file ≢ other
      → DoesMessage moment file (head_of other ++ rest ++ 255 ∷ []) before after held now result
      → DoesNone Elsewhere before after held now result
  other_left file other rest mine its differ does =
      let body = head_of other ++ rest in
      let none : rest_for file body ≡ None =
      ap (λ o. option_and_then (behind (10 ∷ [])) (option_and_then (behind file) o)) (named other rest) ∙ apart file other rest mine its differ in
      let at = subst (λ r. DoesFor moment body r before after held now result) none (body_done file body does) in
      let told : end_of_other body ≡ Elsewhere = ap (λ o. cond (is_some o) Elsewhere Unknown) (named other rest) in
      subst (λ end. DoesNone end before after held now result) told at
