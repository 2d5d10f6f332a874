-- By its lines a head of the grammar ends where its text does.
use Rattle.std.proofs.Common.{◌≡◌, ◌≢◌, ℕ, ◌+◌, ◌≤◌, ◌<◌, Bool, false, eqb, List, [], ◌∷◌, ◌++◌, length, length-append, Some, None, refl, arith, ap, sym, subst, ◌∙◌, IsTrue, append_assoc}
use Rattle.std.specs.Option.{option_map}
use Rattle.std.specs.List.{AllByRecursion, flat_map}
use Rattle.std.proofs.lemmas.List.Elements.{recursion_from_All}
use Rattle.std.proofs.lemmas.Bool.Decides.{nat_tests}
use Rattle.std.proofs.lemmas.Bool.{false≢true}
use Rattle.httparse.specs.Grammar.{LineEnd, crlf, lf, print_end, print_blank, print_version, print_field, print_request, Field, IsField, RequestHead, IsRequestHead, ReadsRequest, AllPass, is_token_byte, is_uri_byte, is_value_byte}
use Rattle.dh_requests.specs.declared.head_end.Scan.{Scan}
use Rattle.dh_requests.specs.declared.head_end.Place.TheVariants.{Start, Return, Inside}
use Rattle.dh_requests.specs.HeadEnd.{HeadSize, lines_of, head_size, IsHeadText}
use Rattle.dh_requests.specs.Head.{IsHeadOf, Parts, HeadEndsByLines}
use Rattle.dh_requests.specs.Scan.{after_byte, size_behind, end_from, ended_or, at_first, ScansTo}
use Rattle.dh_requests.proofs.Lines.{end_from-first, behind_none, sized, unsome}
use Rattle.dh_requests.proofs.Ends.{scans_on}

abbrev start : ℕ → Scan
start n = record { lines = n; place = Start }

abbrev inside : ℕ → Scan
inside n = record { lines = n; place = Inside }

-- the bytes lead from one state of the search to another
abbrev Leads : Scan → List ℕ → Scan → Type 0
Leads a xs b = ScansTo a xs (length xs) b

joins : (a b c : Scan) (xs ys : List ℕ) → Leads a xs b → Leads b ys c → Leads a (xs ++ ys) c
joins a b c xs ys h k = subst (λ n. ScansTo a (xs ++ ys) n c) (sym (length-append xs ys)) (scans_on a b c xs ys (length xs) (length ys) h k)

leads_none : (a : Scan) → Leads a [] a
leads_none a more = sym (behind_none (end_from a more))

leads_byte : (a b : Scan) (x : ℕ) → after_byte a x ≡ Some b → Leads a (x ∷ []) b
leads_byte a b x e more = ap (λ o. ended_or o a.lines (λ s. end_from s more)) e

not_ten : (x : ℕ) → x ≢ 10 → eqb x 10 ≡ false
not_ten x h = grind (arith, nat_tests)

not_return : (x : ℕ) → x ≢ 13 → eqb x 13 ≡ false
not_return x h = grind (arith, nat_tests)

inside_byte : (n : ℕ) (x : ℕ) → x ≢ 10 → after_byte (inside n) x ≡ Some (inside n)
inside_byte n x h = rw (not_ten x h) refl

first_byte : (n : ℕ) (x : ℕ) → x ≢ 10 → x ≢ 13 → after_byte (start n) x ≡ Some (inside n)
first_byte n x h k = rw (not_ten x h, not_return x k) refl

-- no line ends in the bytes
abbrev NoEnd : List ℕ → Type 0
NoEnd [] = Unit {0}
NoEnd (x ∷ xs) = (x ≢ 10) × NoEnd xs

inside_run : (n : ℕ) (xs : List ℕ) → NoEnd xs → Leads (inside n) xs (inside n)
inside_run n [] h = leads_none (inside n)
inside_run n (x ∷ xs) h = joins (inside n) (inside n) (inside n) (x ∷ []) xs (leads_byte (inside n) (inside n) x (inside_byte n x h.0)) (inside_run n xs h.1)

line_run : (n : ℕ) (x : ℕ) (xs : List ℕ) → x ≢ 13 → NoEnd (x ∷ xs) → Leads (start n) (x ∷ xs) (inside n)
line_run n x xs k h = joins (start n) (inside n) (inside n) (x ∷ []) xs (leads_byte (start n) (inside n) x (first_byte n x h.0 k)) (inside_run n xs h.1)

end_run : (n : ℕ) (e : LineEnd) → Leads (inside n) (print_end e) (start (n + 1))
end_run n crlf = joins (inside n) (inside n) (start (n + 1)) (13 ∷ []) (10 ∷ []) (leads_byte (inside n) (inside n) 13 refl) (leads_byte (inside n) (start (n + 1)) 10 refl)
end_run n lf = leads_byte (inside n) (start (n + 1)) 10 refl

abbrev after_return : Scan
after_return = record { lines = 0; place = Return }

blank_run : (e : LineEnd) → Leads (start 0) (print_end e) (start 0)
blank_run crlf = joins (start 0) after_return (start 0) (13 ∷ []) (10 ∷ []) (leads_byte (start 0) after_return 13 refl) (leads_byte after_return (start 0) 10 refl)
blank_run lf = leads_byte (start 0) (start 0) 10 refl

blanks_run : (es : List LineEnd) → Leads (start 0) (print_blank es) (start 0)
blanks_run [] = leads_none (start 0)
blanks_run (e ∷ es) = joins (start 0) (start 0) (start 0) (print_end e) (print_blank es) (blank_run e) (blanks_run es)

last_end : (n : ℕ) (e : LineEnd) (more : List ℕ) → eqb n 0 ≡ false → end_from (start n) (print_end e ++ more) ≡ Some (sized (length (print_end e)) n)
last_end n crlf more h = rw h refl
last_end n lf more h = rw h refl

passes : (test : ℕ → Bool) → (IsTrue (test 10) → ⊥) → (xs : List ℕ) → AllByRecursion (λ b. IsTrue (test b)) xs → NoEnd xs
passes test refuses [] h = tt
passes test refuses (x ∷ xs) h = ((λ e. refuses (subst (λ b. IsTrue (test b)) e h.0)), passes test refuses xs h.1)

token_end : (xs : List ℕ) → AllPass is_token_byte xs → NoEnd xs
unfolding is_token_byte
token_end xs h = passes is_token_byte (λ e. false≢true e) xs (recursion_from_All (λ b. IsTrue (is_token_byte b)) xs h)

uri_end : (xs : List ℕ) → AllPass is_uri_byte xs → NoEnd xs
uri_end xs h = passes is_uri_byte (λ e. false≢true e) xs (recursion_from_All (λ b. IsTrue (is_uri_byte b)) xs h)

value_end : (xs : List ℕ) → AllPass is_value_byte xs → NoEnd xs
value_end xs h = passes is_value_byte (λ e. false≢true e) xs (recursion_from_All (λ b. IsTrue (is_value_byte b)) xs h)

token_run : (n : ℕ) (xs : List ℕ) → (0 < length xs) × AllPass is_token_byte xs → Leads (start n) xs (inside n)
unfolding is_token_byte
token_run n [] h = absurd (omega (arith, h.0))
token_run n (x ∷ xs) h =
    let each = recursion_from_All (λ c. IsTrue (is_token_byte c)) (x ∷ xs) h.1 in
    line_run n x xs (λ e. false≢true (subst (λ c. IsTrue (is_token_byte c)) e each.0)) (token_end (x ∷ xs) h.1)

field_run : (n : ℕ) (f : Field) → IsField f → Leads (start n) (print_field f) (start (n + 1))
field_run n f h =
    joins (start n) (inside n) (start (n + 1)) (f.name ++ 58 ∷ f.raw) (print_end f.end)
    (joins (start n) (inside n) (inside n) f.name (58 ∷ f.raw) (token_run n f.name h.name)
    (inside_run n (58 ∷ f.raw) ((λ e. cc), value_end f.raw h.raw)))
    (end_run n f.end)

fields_run : (n : ℕ) (fs : List Field) → AllByRecursion IsField fs → Leads (start n) (flat_map print_field fs) (start (n + length fs))
fields_run n [] h = let none : n ≡ n + 0 = omega arith in subst (λ k. Leads (start n) [] (start k)) none (leads_none (start n))
fields_run n (f ∷ fs) h =
    let sum : n + 1 + length fs ≡ n + length (f ∷ fs) = omega arith in
    subst (λ k. Leads (start n) (flat_map print_field (f ∷ fs)) (start k)) sum
    (joins (start n) (start (n + 1)) (start (n + 1 + length fs)) (print_field f) (flat_map print_field fs) (field_run n f h.0) (fields_run (n + 1) fs h.1))

version_end : (minor : ℕ) → minor ≤ 1 → NoEnd (print_version minor)
version_end minor h = ((λ e. cc), ((λ e. cc), ((λ e. cc), ((λ e. cc), ((λ e. cc), ((λ e. cc), ((λ e. cc), ((λ e. absurd (omega arith)), tt))))))))

-- all of a head but the empty line
pub head_front : RequestHead → List ℕ
head_front h = print_blank h.blank ++ h.method ++ 32 ∷ h.target ++ 32 ∷ print_version h.minor ++ print_end h.line_end ++ flat_map print_field h.fields

front_run : (h : RequestHead) → IsRequestHead h → Leads at_first (head_front h) (start (1 + length h.fields))
unfolding head_front
front_run h v =
    let blank = blanks_run h.blank in
    let method = joins (start 0) (start 0) (inside 0) (print_blank h.blank) h.method blank (token_run 0 h.method v.method) in
    let target = joins (start 0) (inside 0) (inside 0) (print_blank h.blank ++ h.method) (32 ∷ h.target) method (inside_run 0 (32 ∷ h.target) ((λ e. cc), uri_end h.target v.target.1)) in
    let version = joins (start 0) (inside 0) (inside 0) (print_blank h.blank ++ h.method ++ 32 ∷ h.target) (32 ∷ print_version h.minor) target (inside_run 0 (32 ∷ print_version h.minor) ((λ e. cc), version_end h.minor v.minor)) in
    let line = joins (start 0) (inside 0) (start 1) (print_blank h.blank ++ h.method ++ 32 ∷ h.target ++ 32 ∷ print_version h.minor) (print_end h.line_end) version (end_run 0 h.line_end) in
    joins (start 0) (start 1) (start (1 + length h.fields)) (print_blank h.blank ++ h.method ++ 32 ∷ h.target ++ 32 ∷ print_version h.minor ++ print_end h.line_end) (flat_map print_field h.fields) line
    (fields_run 1 h.fields (recursion_from_All IsField h.fields v.fields))

printed : (h : RequestHead) → print_request h ≡ head_front h ++ print_end h.last
unfolding print_request head_front
printed h = sym (append_assoc (print_blank h.blank ++ h.method ++ 32 ∷ h.target ++ 32 ∷ print_version h.minor ++ print_end h.line_end) (flat_map print_field h.fields) (print_end h.last))

later : (n : ℕ) → eqb (1 + n) 0 ≡ false
later n = grind (arith, nat_tests)

-- the search finds the end of a head where its text ends
ends_there : (h : RequestHead) (rest : List ℕ) → IsRequestHead h → end_from at_first (print_request h ++ rest) ≡ Some (sized (length (print_request h)) (1 + length h.fields))
ends_there h rest v =
    let len : length (print_request h) ≡ length (head_front h) + length (print_end h.last) = ap length (printed h) ∙ length-append (head_front h) (print_end h.last) in
    let swap : length (print_end h.last) + length (head_front h) ≡ length (print_request h) = omega arith in
    ap (λ w. end_from at_first (w ++ rest)) (printed h)
    ∙ ap (end_from at_first) (append_assoc (head_front h) (print_end h.last) rest)
    ∙ front_run h v (print_end h.last ++ rest)
    ∙ ap (option_map (size_behind (length (head_front h)))) (last_end (1 + length h.fields) h.last rest (later (length h.fields)))
    ∙ ap (λ k. Some (sized k (1 + length h.fields))) swap

pub by_lines : HeadEndsByLines
by_lines h rest v = sym (end_from-first (print_request h ++ rest)) ∙ ends_there h rest v

empty : (xs : List ℕ) → length xs ≡ 0 → xs ≡ []
empty [] e = refl
empty (x ∷ xs) e = absurd (omega arith)

-- what a head by its lines reads as is all of it, and has no more fields than lines
pub whole : (text rest : List ℕ) (h : RequestHead) → IsHeadText text → ReadsRequest text h rest → (rest ≡ []) × (length h.fields ≤ 64)
whole text rest h t r =
    let same : Some (sized (length text) t.0) ≡ Some (sized (length (print_request h)) (1 + length h.fields)) =
    sym t.2 ∙ ap (λ w. head_size (lines_of w)) r.1 ∙ by_lines h rest r.0 in
    let parts = unsome (sized (length text) t.0) (sized (length (print_request h)) (1 + length h.fields)) same in
    let bytes : length text ≡ length (print_request h) = ap (λ (s : HeadSize). s.bytes) parts in
    let lines : t.0 ≡ 1 + length h.fields = ap (λ (s : HeadSize). s.lines) parts in
    (empty rest (omega (arith, bytes, ap length r.1 ∙ length-append (print_request h) rest)), omega (arith, lines, t.1))

-- a head by its lines that is no head of at most 64 fields is none of the grammar
pub none_of : (text : List ℕ) → IsHeadText text → ((h : RequestHead) (rest : List ℕ) → ReadsRequest text h rest → 64 < length h.fields) → IsHeadOf text None
none_of text t none h r = absurd (omega (arith, none h [] r, (whole text [] h t r).1))

pub some_of : (text rest : List ℕ) (h : RequestHead) → IsHeadText text → ReadsRequest text h rest → IsHeadOf text (Some h)
some_of text rest h t r = subst (λ w. ReadsRequest text h w) ((whole text rest h t r).0) r

-- parts that agree one by one
pub same_parts : (a b : Parts) → a.method ≡ b.method → a.target ≡ b.target → a.host ≡ b.host → a.pass ≡ b.pass → a.key ≡ b.key → a.length ≡ b.length → a.coding ≡ b.coding → a ≡ b
same_parts a b method target host pass key length coding =
    ap (λ v. record a { method = v }) method
    ∙ ap (λ v. record a { method = b.method; target = v }) target
    ∙ ap (λ v. record b { host = v; pass = a.pass; key = a.key; length = a.length; coding = a.coding }) host
    ∙ ap (λ v. record b { pass = v; key = a.key; length = a.length; coding = a.coding }) pass
    ∙ ap (λ v. record b { key = v; length = a.length; coding = a.coding }) key
    ∙ ap (λ v. record b { length = v; coding = a.coding }) length
    ∙ ap (λ v. record b { coding = v }) coding
