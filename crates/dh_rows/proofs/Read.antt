-- A text of one of our shapes, read off by a function, so that `refl` finds the shape of a text that is written out.
use Rattle.std.proofs.Common.{◌≡◌, ℕ, zero, suc, ◌-◌, ◌+◌, ◌≤◌, List, [], ◌∷◌, ◌++◌, map, length, nat_le, Bool, true, false, Option, None, Some, Ok, Err, refl, sym, ap, ◌∙◌, slice_get, option_and_then, bytes_eq, leb-true, not}
use Rattle.std.proofs.lemmas.Slice.Eq.{bytes_eq-Decides}
use Rattle.sqlite_ast.specs.Layer.{Layer, ShownLayer}
use Rattle.sqlite_ast.specs.declared.Expr.{Expr, out-Expr}
use Rattle.sqlite_ast.specs.declared.Expr.TheOpen.{Expr-F, Shown-F}
use Rattle.sqlite_ast.specs.declared.Shown.{Shown, out-Shown}
use Rattle.sqlite_ast.specs.declared.Source.{Source, out-Source}
use Rattle.sqlite_ast.specs.declared.Core.{Core, out-Core}
use Rattle.sqlite_ast.specs.declared.Select.{Select, out-Select}
use Rattle.sqlite_ast.specs.declared.Sort.{Sort, out-Sort}
use Rattle.sqlite_ast.specs.declared.Origin.{Origin}
use Rattle.sqlite_ast.specs.declared.Origin.TheVariants as origin
use Rattle.sqlite_ast.specs.declared.Binary.{Binary as Operator}
use Rattle.sqlite_ast.specs.declared.Binary.TheVariants.{Eq, Gt, And}
use Rattle.sqlite_ast.specs.declared.Statement.{Statement}
use Rattle.sqlite_ast.specs.declared.Statement.TheVariants as written
use Rattle.sqlite_ast.specs.declared.Conflict.TheVariants as conflict
use Rattle.sqlite_syntax.specs.declared.statement.Parsed.{Parsed}
use Rattle.sqlite_sql.specs.Term.{Term}
use Rattle.sqlite_schema.specs.declared.schema.Column.{Column as Declared}
use Rattle.sqlite_schema.specs.declared.schema.Table.{Table}
use Rattle.sqlite_schema.specs.declared.schema.Schema.{Schema}
use Rattle.sqlite_schema.specs.declared.command.Source.{Source as Given}
use Rattle.sqlite_schema.specs.declared.command.Source.TheVariants.{Values, Query}
use Rattle.sqlite_schema.specs.Names.{column_named}
use Rattle.sqlite_resolve.specs.Lowering.{Checked}
use Rattle.sqlite_resolve.specs.Compile.{first, new_rows, small}
use Rattle.dh_rows.proofs.Texts.{IsColumn, named, IsCompared, compares, IsEqual, IsTest, one, both, IsTestAbove, ends, IsWhere, all, only, AreShown, none, next, AreSorts, rowid_name, IsRowidOf, unnamed, IsFrame, IsChoice, chooses, IsDelete, IsDeleteAbove, deletes, IsSelect, selects, IsIds, rowids, IsInsert, adds}

-- ---- tests on the way

got : {A B : Type 0} (f : A → Option B) (o : Option A) (b : B) → option_and_then f o ≡ Some b → (a : A) × (o ≡ Some a) × (f a ≡ Some b)
got f None b h = absurd (cc)
got f (Some a) b h = (a, refl, h)

some_same : {A : Type 0} {a b : A} → Some a ≡ Some b → a ≡ b
some_same h = cc

abbrev if_nil : {A B : Type 0} → List A → Option B → Option B
if_nil [] o = o
if_nil (x ∷ xs) o = None

nil : {A B : Type 0} (xs : List A) (o : Option B) (b : B) → if_nil xs o ≡ Some b → (xs ≡ []) × (o ≡ Some b)
nil [] o b h = (refl, h)
nil (x ∷ xs) o b h = absurd (cc)

abbrev if_none : {A B : Type 0} → Option A → Option B → Option B
if_none None o = o
if_none (Some a) o = None

absent : {A B : Type 0} (a : Option A) (o : Option B) (b : B) → if_none a o ≡ Some b → (a ≡ None) × (o ≡ Some b)
absent None o b h = (refl, h)
absent (Some a) o b h = absurd (cc)

abbrev if_true : {B : Type 0} → Bool → Option B → Option B
if_true true o = o
if_true false o = None

so : {B : Type 0} (a : Bool) (o : Option B) (b : B) → if_true a o ≡ Some b → (a ≡ true) × (o ≡ Some b)
so true o b h = (refl, h)
so false o b h = absurd (cc)

abbrev if_not : {B : Type 0} → Bool → Option B → Option B
if_not a o = if_true (not a) o

not_so : {B : Type 0} (a : Bool) (o : Option B) (b : B) → if_not a o ≡ Some b → (a ≡ false) × (o ≡ Some b)
not_so false o b h = (refl, h)
not_so true o b h = absurd (cc)

same_bytes : (a b : List ℕ) → bytes_eq a b ≡ true → a ≡ b
same_bytes a b e = (bytes_eq-Decides a b).0 e

few : {A : Type 0} (xs : List A) → nat_le (length xs) 100 ≡ true → length xs ≤ 100
few xs e = leb-true (length xs) 100 e

abbrev single : {A : Type 0} → List A → Option A
single [] = None
single (x ∷ []) = Some x
single (x ∷ y ∷ more) = None

alone : {A : Type 0} (xs : List A) (x : A) → single xs ≡ Some x → xs ≡ x ∷ []
alone [] x h = absurd (cc)
alone (y ∷ []) x h = let same : y ≡ x = cc in ap (λ z. z ∷ []) same
alone (y ∷ z ∷ more) x h = absurd (cc)

-- ---- expressions

abbrev column_by : Table → Layer → Option ℕ
column_by t (Expr-F.Column None name) = option_and_then (λ k. option_and_then (λ c. Some k) (slice_get t.columns k)) (column_named t name)
column_by t _ = None

abbrev column_of : Table → Expr → Option ℕ
column_of t e = column_by t (out-Expr e)

is_column : (t : Table) (e : Expr) (k : ℕ) → column_of t e ≡ Some k → IsColumn t e k
is_column t e k h = go (out-Expr e) refl h
  where
    found : (name : List ℕ) → out-Expr e ≡ Expr-F.Column None name → (j : ℕ) → column_named t name ≡ Some j → option_and_then (λ c. Some j) (slice_get t.columns j) ≡ Some k → IsColumn t e k
    found name out j is h =
        let c = got (λ c. Some j) (slice_get t.columns j) k h in
        let same : j ≡ k = let x = c.2 in cc in
        named out (is ∙ ap Some same) (sym (ap (slice_get t.columns) same) ∙ c.1)

    go : (o : Layer) → out-Expr e ≡ o → column_by t o ≡ Some k → IsColumn t e k
    go (Expr-F.Column None name) out h = let j = got (λ k. option_and_then (λ c. Some k) (slice_get t.columns k)) (column_named t name) k h in found name out j.0 j.1 j.2
    go _ out h = absurd (cc)

abbrev parameter_by : Layer → Option ℕ
parameter_by (Expr-F.Parameter m) = Some (m - 1)
parameter_by _ = None

is_parameter : (e : Expr) (n : ℕ) → parameter_by (out-Expr e) ≡ Some n → (m : ℕ) × (out-Expr e ≡ Expr-F.Parameter m) × (m - 1 ≡ n)
is_parameter e n h = go (out-Expr e) refl h
  where
    go : (o : Layer) → out-Expr e ≡ o → parameter_by o ≡ Some n → (m : ℕ) × (out-Expr e ≡ Expr-F.Parameter m) × (m - 1 ≡ n)
    go (Expr-F.Parameter m) out h = (m, out, cc)
    go _ out h = absurd (cc)

-- the column and the parameter of a comparison
abbrev sides_of : Table → Expr → Expr → Option (ℕ × ℕ)
sides_of t a b = option_and_then (λ k. option_and_then (λ n. Some (k, n)) (parameter_by (out-Expr b))) (column_of t a)

are_sides : (t : Table) (op : Operator) (e a b : Expr) (w : ℕ × ℕ) → out-Expr e ≡ Expr-F.Binary op a b → sides_of t a b ≡ Some w → IsCompared t op e w
are_sides t op e a b w out h =
    let k = got (λ k. option_and_then (λ n. Some (k, n)) (parameter_by (out-Expr b))) (column_of t a) w h in
    let n = got (λ n. Some (k.0, n)) (parameter_by (out-Expr b)) w k.2 in
    let m = is_parameter b n.0 n.1 in
    let same : (k.0, n.0) ≡ w = let x = n.2 in cc in
    Rattle.std.proofs.Common.subst (IsCompared t op e) same (compares out (is_column t a k.0 k.1) m.1 m.2)

abbrev equal_by : Table → Layer → Option (ℕ × ℕ)
equal_by t (Expr-F.Binary Eq a b) = sides_of t a b
equal_by t _ = None

is_equal : (t : Table) (e : Expr) (w : ℕ × ℕ) → equal_by t (out-Expr e) ≡ Some w → IsEqual t e w
is_equal t e w h = go (out-Expr e) refl h
  where
    go : (o : Layer) → out-Expr e ≡ o → equal_by t o ≡ Some w → IsEqual t e w
    go (Expr-F.Binary Eq a b) out h = are_sides t Eq e a b w out h
    go _ out h = absurd (cc)

abbrev above_by : Table → Layer → Option (ℕ × ℕ)
above_by t (Expr-F.Binary Gt a b) = sides_of t a b
above_by t _ = None

is_above : (t : Table) (e : Expr) (w : ℕ × ℕ) → above_by t (out-Expr e) ≡ Some w → IsCompared t Gt e w
is_above t e w h = go (out-Expr e) refl h
  where
    go : (o : Layer) → out-Expr e ≡ o → above_by t o ≡ Some w → IsCompared t Gt e w
    go (Expr-F.Binary Gt a b) out h = are_sides t Gt e a b w out h
    go _ out h = absurd (cc)

abbrev test_by : (Expr → Option (List (ℕ × ℕ))) → Table → Expr → Layer → Option (List (ℕ × ℕ))
test_by again t e (Expr-F.Binary And l r) = option_and_then (λ ws. option_and_then (λ w. Some (ws ++ w ∷ [])) (equal_by t (out-Expr r))) (again l)
test_by again t e o = option_and_then (λ w. Some (w ∷ [])) (equal_by t o)

abbrev test_of : ℕ → Table → Expr → Option (List (ℕ × ℕ))
test_of zero t e = None
test_of (suc n) t e = test_by (test_of n t) t e (out-Expr e)

is_test : (n : ℕ) (t : Table) (e : Expr) (ws : List (ℕ × ℕ)) → test_of n t e ≡ Some ws → IsTest t e ws
is_test zero t e ws h = absurd (cc)
is_test (suc n) t e ws h = go (out-Expr e) refl h (λ l vs. is_test n t l vs)
  where
    lone : equal_by t (out-Expr e) ≡ equal_by t (out-Expr e) → option_and_then (λ w. Some (w ∷ [])) (equal_by t (out-Expr e)) ≡ Some ws → IsTest t e ws
    lone _ h =
        let w = got (λ w. Some (w ∷ [])) (equal_by t (out-Expr e)) ws h in
        let same : w.0 ∷ [] ≡ ws = let x = w.2 in cc in
        Rattle.std.proofs.Common.subst (IsTest t e) same (one (is_equal t e w.0 w.1))

    go : (o : Layer) → out-Expr e ≡ o → test_by (test_of n t) t e o ≡ Some ws → ((l : Expr) (vs : List (ℕ × ℕ)) → test_of n t l ≡ Some vs → IsTest t l vs) → IsTest t e ws
    go (Expr-F.Binary And l r) out h again =
        let vs = got (λ ws. option_and_then (λ w. Some (ws ++ w ∷ [])) (equal_by t (out-Expr r))) (test_of n t l) ws h in
        let w = got (λ w. Some (vs.0 ++ w ∷ [])) (equal_by t (out-Expr r)) ws vs.2 in
        let same : vs.0 ++ w.0 ∷ [] ≡ ws = let x = w.2 in cc in
        Rattle.std.proofs.Common.subst (IsTest t e) same (both out (again l vs.0 vs.1) (is_equal t r w.0 w.1))
    go _ out h again = lone refl (rw out h)

abbrev Bounded : Type 0
Bounded = List (ℕ × ℕ) × (ℕ × ℕ)

abbrev test_above_by : Table → Layer → Option Bounded
test_above_by t (Expr-F.Binary And l r) = option_and_then (λ ws. option_and_then (λ w. Some (ws, w)) (above_by t (out-Expr r))) (test_of 100 t l)
test_above_by t _ = None

is_test_above : (t : Table) (e : Expr) (ws : List (ℕ × ℕ)) (w : ℕ × ℕ) → test_above_by t (out-Expr e) ≡ Some (ws, w) → IsTestAbove t e ws w
is_test_above t e ws w h = go (out-Expr e) refl h
  where
    go : (o : Layer) → out-Expr e ≡ o → test_above_by t o ≡ Some (ws, w) → IsTestAbove t e ws w
    go (Expr-F.Binary And l r) out h =
        let vs = got (λ ws. option_and_then (λ w. Some (ws, w)) (above_by t (out-Expr r))) (test_of 100 t l) (ws, w) h in
        let v = got (λ w. Some (vs.0, w)) (above_by t (out-Expr r)) (ws, w) vs.2 in
        let same : (vs.0, v.0) ≡ (ws, w) = some_same v.2 in
        Rattle.std.proofs.Common.subst (λ (z : Bounded). IsTestAbove t e z.0 z.1) same (ends out (is_test 100 t l vs.0 vs.1) (is_above t r v.0 v.1))
    go _ out h = absurd (cc)

abbrev where_of : Table → Option Expr → Option (List (ℕ × ℕ))
where_of t None = Some []
where_of t (Some e) = test_of 100 t e

is_where : (t : Table) (test : Option Expr) (ws : List (ℕ × ℕ)) → where_of t test ≡ Some ws → IsWhere t test ws
is_where t None ws h = let same : [] ≡ ws = cc in Rattle.std.proofs.Common.subst (IsWhere t None) same all
is_where t (Some e) ws h = only (is_test 100 t e ws h)

-- ---- lists

abbrev shown_by : Table → ShownLayer → Option ℕ
shown_by t (Shown-F.One e None text) = column_of t e
shown_by t _ = None

abbrev shown_of : Table → List Shown → Option (List ℕ)
shown_of t [] = Some []
shown_of t (s ∷ ss) = option_and_then (λ k. option_and_then (λ ks. Some (k ∷ ks)) (shown_of t ss)) (shown_by t (out-Shown s))

are_shown : (t : Table) (ss : List Shown) (ks : List ℕ) → shown_of t ss ≡ Some ks → AreShown t ss ks
are_shown t [] ks h = let same : [] ≡ ks = cc in Rattle.std.proofs.Common.subst (AreShown t []) same none
are_shown t (s ∷ ss) ks h =
    let k = got (λ k. option_and_then (λ ks. Some (k ∷ ks)) (shown_of t ss)) (shown_by t (out-Shown s)) ks h in
    let more = got (λ ks. Some (k.0 ∷ ks)) (shown_of t ss) ks k.2 in
    let same : k.0 ∷ more.0 ≡ ks = let x = more.2 in cc in
    Rattle.std.proofs.Common.subst (AreShown t (s ∷ ss)) same (go (out-Shown s) refl k.0 k.1 more.0 (are_shown t ss more.0 more.1))
  where
    go : (o : ShownLayer) → out-Shown s ≡ o → (k : ℕ) → shown_by t o ≡ Some k → (ks : List ℕ) → AreShown t ss ks → AreShown t (s ∷ ss) (k ∷ ks)
    go (Shown-F.One e None text) out k h ks rest = next out (is_column t e k h) rest
    go _ out k h ks rest = absurd (cc)

abbrev sorts_of : Table → List Sort → Option (List ℕ)
sorts_of t [] = Some []
sorts_of t (s ∷ ss) = if_not (out-Sort s).descending (if_none (out-Sort s).nulls_first (option_and_then (λ k. option_and_then (λ ks. Some (k ∷ ks)) (sorts_of t ss)) (column_of t (out-Sort s).key)))

are_sorts : (t : Table) (ss : List Sort) (ks : List ℕ) → sorts_of t ss ≡ Some ks → AreSorts t ss ks
are_sorts t [] ks h = let same : [] ≡ ks = cc in Rattle.std.proofs.Common.subst (AreSorts t []) same none
are_sorts t (s ∷ ss) ks h =
    let down = not_so _ _ ks h in
    let nulls = absent _ _ ks down.1 in
    let k = got (λ k. option_and_then (λ ks. Some (k ∷ ks)) (sorts_of t ss)) (column_of t (out-Sort s).key) ks nulls.1 in
    let more = got (λ ks. Some (k.0 ∷ ks)) (sorts_of t ss) ks k.2 in
    let same : k.0 ∷ more.0 ≡ ks = let x = more.2 in cc in
    Rattle.std.proofs.Common.subst (AreSorts t (s ∷ ss)) same (next refl down.0 nulls.0 (is_column t (out-Sort s).key k.0 k.1) (are_sorts t ss more.0 more.1))

-- ---- statements

abbrev delete_by : Table → Statement → Option (List (ℕ × ℕ))
delete_by t (written.Delete name test []) = if_true (bytes_eq name t.name) (option_and_then (λ ws. if_true (nat_le (length ws) 100) (Some ws)) (where_of t test))
delete_by t _ = None

abbrev delete_in : Table → Checked Parsed → Option (List (ℕ × ℕ))
delete_in t (Ok p) = if_nil p.formats (delete_by t p.statement)
delete_in t (Err e) = None

-- the columns in the WHERE of a DELETE on the table, each with its parameter
abbrev pub delete_of : Table → List ℕ → Option (List (ℕ × ℕ))
delete_of t text = delete_in t (first text)

pub is_delete : (t : Table) (text : List ℕ) (ws : List (ℕ × ℕ)) → delete_of t text ≡ Some ws → IsDelete t text ws
is_delete t text ws h = go (first text) refl h
  where
    by : (p : Parsed) → first text ≡ Ok p → p.formats ≡ [] → (s : Statement) → p.statement ≡ s → delete_by t s ≡ Some ws → IsDelete t text ws
    by p read formats (written.Delete name test []) is h =
        let name_is = so _ _ ws h in
        let vs = got (λ ws. if_true (nat_le (length ws) 100) (Some ws)) (where_of t test) ws name_is.1 in
        let small = so _ _ ws vs.2 in
        let same : vs.0 ≡ ws = let x = small.1 in cc in
        deletes read (is ∙ ap (λ n. written.Delete n test []) (same_bytes name t.name name_is.0)) formats (is_where t test ws (vs.1 ∙ ap Some same)) (few ws (ap (λ l. nat_le (length l) 100) (sym same) ∙ small.0))
    by p read formats _ is h = absurd (cc)

    go : (r : Checked Parsed) → first text ≡ r → delete_in t r ≡ Some ws → IsDelete t text ws
    go (Ok p) read h = let formats = nil _ _ ws h in by p read formats.0 p.statement refl formats.1
    go (Err e) read h = absurd (cc)

abbrev delete_above_by : Table → Statement → Option Bounded
delete_above_by t (written.Delete name (Some e) []) = if_true (bytes_eq name t.name) (option_and_then (λ z. if_true (nat_le (length z.0) 100) (Some z)) (test_above_by t (out-Expr e)))
delete_above_by t _ = None

abbrev delete_above_in : Table → Checked Parsed → Option Bounded
delete_above_in t (Ok p) = if_nil p.formats (delete_above_by t p.statement)
delete_above_in t (Err e) = None

-- the same of one whose WHERE ends with a column that is above its parameter, and these two
abbrev pub delete_above_of : Table → List ℕ → Option Bounded
delete_above_of t text = delete_above_in t (first text)

pub is_delete_above : (t : Table) (text : List ℕ) (ws : List (ℕ × ℕ)) (w : ℕ × ℕ) → delete_above_of t text ≡ Some (ws, w) → IsDeleteAbove t text ws w
is_delete_above t text ws w h = go (first text) refl h
  where
    by : (p : Parsed) → first text ≡ Ok p → p.formats ≡ [] → (s : Statement) → p.statement ≡ s → delete_above_by t s ≡ Some (ws, w) → IsDeleteAbove t text ws w
    by p read formats (written.Delete name (Some e) []) is h =
        let name_is = so _ _ (ws, w) h in
        let z = got (λ z. if_true (nat_le (length z.0) 100) (Some z)) (test_above_by t (out-Expr e)) (ws, w) name_is.1 in
        let small = so _ _ (ws, w) z.2 in
        let same : z.0 ≡ (ws, w) = some_same small.1 in
        deletes read (is ∙ ap (λ n. written.Delete n (Some e) []) (same_bytes name t.name name_is.0)) formats (is_test_above t e ws w (z.1 ∙ ap Some same)) (few ws (ap (λ (l : Bounded). nat_le (length l.0) 100) (sym same) ∙ small.0))
    by p read formats _ is h = absurd (cc)

    go : (r : Checked Parsed) → first text ≡ r → delete_above_in t r ≡ Some (ws, w) → IsDeleteAbove t text ws w
    go (Ok p) read h = let formats = nil _ _ (ws, w) h in by p read formats.0 p.statement refl formats.1
    go (Err e) read h = absurd (cc)

-- the columns that a SELECT shows, those of its WHERE with their parameters, and those that it sorts by
abbrev Shape : Type 0
Shape = List ℕ × List (ℕ × ℕ) × List ℕ

abbrev lists_of : Table → Core → List Sort → Option Shape
lists_of t core order =
    option_and_then (λ ks. option_and_then (λ ws. option_and_then (λ os. if_true (nat_le (length ks) 100) (if_true (nat_le (length ws) 100) (if_true (nat_le (length os) 100) (Some (ks, ws, os))))) (sorts_of t order)) (where_of t (out-Core core).filter)) (shown_of t (out-Core core).shown)

abbrev origin_by : {B : Type 0} → Table → Origin Select → Option B → Option B
origin_by t (origin.Table name) o = if_true (bytes_eq name t.name) o
origin_by t (origin.Query q) o = None

abbrev source_of : {B : Type 0} → Table → Source → Option B → Option B
source_of t src o = origin_by t (out-Source src).origin (if_none (out-Source src).alias (if_nil (out-Source src).using (if_none (out-Source src).on (if_not (out-Source src).is_left o))))

abbrev core_of : {B : Type 0} → Table → Core → Option B → Option B
core_of t core o = if_nil (out-Core core).group (if_none (out-Core core).having (if_not (out-Core core).distinct (option_and_then (λ src. source_of t src o) (single (out-Core core).from))))

-- of a SELECT from the table alone
abbrev frame_of : {B : Type 0} → Table → Select → Option B → Option B
frame_of t q o = if_nil (out-Select q).with (if_nil (out-Select q).others (if_none (out-Select q).limit (if_none (out-Select q).offset (core_of t (out-Select q).first o))))

abbrev choice_of : Table → Select → Option Shape
choice_of t q = frame_of t q (lists_of t (out-Select q).first (out-Select q).order)

is_origin : {B : Type 0} (t : Table) (src : Source) (o : Option B) (z : B) → origin_by t (out-Source src).origin o ≡ Some z → ((out-Source src).origin ≡ origin.Table t.name) × (o ≡ Some z)
is_origin {B} t src o z h = go (out-Source src).origin refl h
  where
    go : (from : Origin Select) → (out-Source src).origin ≡ from → origin_by t from o ≡ Some z → ((out-Source src).origin ≡ origin.Table t.name) × (o ≡ Some z)
    go (origin.Table name) is h = let e = so _ _ z h in (is ∙ ap origin.Table (same_bytes name t.name e.0), e.1)
    go (origin.Query q) is h = absurd (cc)

is_frame : {B : Type 0} (t : Table) (q : Select) (o : Option B) (z : B) → frame_of t q o ≡ Some z → (src : Source) × IsFrame t q (out-Select q).first src × (o ≡ Some z)
is_frame t q o z h =
    let core = (out-Select q).first in
    let bare = nil _ _ z h in
    let others = nil _ _ z bare.1 in
    let limit = absent _ _ z others.1 in
    let offset = absent _ _ z limit.1 in
    let group = nil _ _ z offset.1 in
    let having = absent _ _ z group.1 in
    let distinct = not_so _ _ z having.1 in
    let src = got (λ src. source_of t src o) (single (out-Core core).from) z distinct.1 in
    let from = is_origin t src.0 _ z src.2 in
    let alias = absent _ _ z from.1 in
    let using = nil _ _ z alias.1 in
    let on = absent _ _ z using.1 in
    let left = not_so _ _ z on.1 in
    let frame : IsFrame t q core src.0 = record { bare = bare.0; others = others.0; limit = limit.0; offset = offset.0; first_is = refl; from = alone _ _ src.1; origin_is = from.0; alias = alias.0; using = using.0; on = on.0; left = left.0; group = group.0; having = having.0; distinct = distinct.0 } in
    (src.0, frame, left.1)

is_choice : (t : Table) (q : Select) (ks : List ℕ) (ws : List (ℕ × ℕ)) (os : List ℕ) → choice_of t q ≡ Some (ks, ws, os) → IsChoice t q ks ws os
is_choice t q ks ws os h =
    let z : Shape = (ks, ws, os) in
    let it = is_frame t q _ z h in
    let f = it.1 in
    let lists = listed (out-Select q).first (out-Select q).order z it.2 in
    chooses f.bare f.others f.limit f.offset refl f.from f.origin_is f.alias f.using f.on f.left refl lists.0 lists.1 refl lists.2 lists.3 f.group f.having f.distinct refl lists.4 lists.5
  where
    listed : (core : Core) (order : List Sort) (z : Shape) → lists_of t core order ≡ Some z
        → AreShown t (out-Core core).shown z.0 × (length z.0 ≤ 100) × IsWhere t (out-Core core).filter z.1 × (length z.1 ≤ 100) × AreSorts t order z.2 × (length z.2 ≤ 100)
    listed core order z h =
        let k = got (λ ks. option_and_then (λ ws. option_and_then (λ os. if_true (nat_le (length ks) 100) (if_true (nat_le (length ws) 100) (if_true (nat_le (length os) 100) (Some (ks, ws, os))))) (sorts_of t order)) (where_of t (out-Core core).filter)) (shown_of t (out-Core core).shown) z h in
        let w = got (λ ws. option_and_then (λ os. if_true (nat_le (length k.0) 100) (if_true (nat_le (length ws) 100) (if_true (nat_le (length os) 100) (Some (k.0, ws, os))))) (sorts_of t order)) (where_of t (out-Core core).filter) z k.2 in
        let o = got (λ os. if_true (nat_le (length k.0) 100) (if_true (nat_le (length w.0) 100) (if_true (nat_le (length os) 100) (Some (k.0, w.0, os))))) (sorts_of t order) z w.2 in
        let a = so _ _ z o.2 in
        let b = so _ _ z a.1 in
        let c = so _ _ z b.1 in
        let same : (k.0, w.0, o.0) ≡ z = some_same c.1 in
        Rattle.std.proofs.Common.subst (λ (y : Shape). AreShown t (out-Core core).shown y.0 × (length y.0 ≤ 100) × IsWhere t (out-Core core).filter y.1 × (length y.1 ≤ 100) × AreSorts t order y.2 × (length y.2 ≤ 100)) same
        (are_shown t _ k.0 k.1, few k.0 a.0, is_where t _ w.0 w.1, few w.0 b.0, are_sorts t order o.0 o.1, few o.0 c.0)

abbrev query_by : {B : Type 0} → (Select → Option B) → Statement → Option B
query_by f (written.Select q) = f q
query_by f _ = None

abbrev query_in : {B : Type 0} → (Select → Option B) → Checked Parsed → Option B
query_in f (Ok p) = if_nil p.formats (query_by f p.statement)
query_in f (Err e) = None

-- what f tells of the query that a text is
record Queries {B : Type 0} (f : Select → Option B) (r : Checked Parsed) (z : B) : Type 0 where
  parsed : Parsed
  query : Select
  read : r ≡ Ok parsed
  statement : parsed.statement ≡ written.Select query
  formats : parsed.formats ≡ []
  told : f query ≡ Some z

is_query : {B : Type 0} (f : Select → Option B) (r : Checked Parsed) (z : B) → query_in f r ≡ Some z → Queries f r z
is_query f (Err e) z h = absurd (cc)
is_query {B} f (Ok p) z h = let formats = nil _ _ z h in go p.statement refl formats.0 formats.1
  where
    go : (s : Statement) → p.statement ≡ s → p.formats ≡ [] → query_by f s ≡ Some z → Queries f (Ok p) z
    go (written.Select q) is formats h = record { parsed = p; query = q; read = refl; statement = is; formats = formats; told = h }
    go _ is formats h = absurd (cc)

abbrev pub select_of : Table → List ℕ → Option (List ℕ × List (ℕ × ℕ) × List ℕ)
select_of t text = query_in (choice_of t) (first text)

pub is_select : (t : Table) (text : List ℕ) (ks : List ℕ) (ws : List (ℕ × ℕ)) (os : List ℕ) → select_of t text ≡ Some (ks, ws, os) → IsSelect t text ks ws os
is_select t text ks ws os h = let it = is_query (choice_of t) (first text) (ks, ws, os) h in selects it.read it.statement it.formats (is_choice t it.query ks ws os it.told)

-- ---- how many parameters a text has

abbrev counted : List ℕ → Checked Parsed → Option ℕ
counted text (Ok p) = if_true (nat_le (length text) p.tail) (Some (length p.names))
counted text (Err e) = None

-- where its one statement is all of the text
abbrev pub parameters_in : List ℕ → Option ℕ
parameters_in text = counted text (first text)

pub record CountsParameters (text : List ℕ) (n : ℕ) : Type 0 where
  pub parsed : Parsed
  pub read : first text ≡ Ok parsed
  pub whole : length text ≤ parsed.tail
  pub given : length parsed.names ≡ n

pub are_counted : (text : List ℕ) (n : ℕ) → parameters_in text ≡ Some n → CountsParameters text n
are_counted text n h = go (first text) refl h
  where
    go : (r : Checked Parsed) → first text ≡ r → counted text r ≡ Some n → CountsParameters text n
    go (Ok p) read h =
        let whole = so _ _ n h in
        record { parsed = p; read = read; whole = leb-true (length text) p.tail whole.0; given = some_same whole.1 }
    go (Err e) read h = absurd (cc)

-- ---- queries of a whole table, without parameters

abbrev whole_in : {B : Type 0} → List ℕ → (Select → Option B) → Checked Parsed → Option B
whole_in text f (Ok p) = if_true (nat_le (length text) p.tail) (if_nil p.names (query_in f (Ok p)))
whole_in text f (Err e) = None

is_whole : {B : Type 0} (text : List ℕ) (f : Select → Option B) (z : B) → whole_in text f (first text) ≡ Some z → CountsParameters text 0 × Queries f (first text) z
is_whole {B} text f z h = go (first text) refl h
  where
    go : (r : Checked Parsed) → first text ≡ r → whole_in text f r ≡ Some z → CountsParameters text 0 × Queries f (first text) z
    go (Ok p) read h =
        let whole = so _ _ z h in
        let bare = nil _ _ z whole.1 in (
          record { parsed = p; read = read; whole = leb-true (length text) p.tail whole.0; given = ap length bare.0 },
          Rattle.std.proofs.Common.subst (λ r. Queries f r z) (sym read) (is_query f (Ok p) z bare.1),
        )
    go (Err e) read h = absurd (cc)

abbrev rowid_by : {B : Type 0} → Table → Layer → Option B → Option B
rowid_by t (Expr-F.Column None name) o = if_true (bytes_eq name rowid_name) (if_none (column_named t rowid_name) o)
rowid_by t _ o = None

is_rowid : {B : Type 0} (t : Table) (e : Expr) (o : Option B) (z : B) → rowid_by t (out-Expr e) o ≡ Some z → IsRowidOf t e × (o ≡ Some z)
is_rowid {B} t e o z h = go (out-Expr e) refl h
  where
    go : (l : Layer) → out-Expr e ≡ l → rowid_by t l o ≡ Some z → IsRowidOf t e × (o ≡ Some z)
    go (Expr-F.Column None name) out h =
        let is = so _ _ z h in
        let free = absent _ _ z is.1 in
        (unnamed (out ∙ ap (Expr-F.Column None) (same_bytes name rowid_name is.0)) free.0, free.1)
    go _ out h = absurd (cc)

abbrev shows_rowid : {B : Type 0} → Table → ShownLayer → Option B → Option B
shows_rowid t (Shown-F.One e None text) o = rowid_by t (out-Expr e) o
shows_rowid t _ o = None

abbrev sorts_rowid : Table → Sort → Option (Unit {0})
sorts_rowid t s = if_not (out-Sort s).descending (if_none (out-Sort s).nulls_first (rowid_by t (out-Expr (out-Sort s).key) (Some tt)))

abbrev ids_in : Table → Core → List Sort → Option (Unit {0})
ids_in t core order = if_none (out-Core core).filter (option_and_then (λ s. option_and_then (λ so. shows_rowid t (out-Shown s) (sorts_rowid t so)) (single order)) (single (out-Core core).shown))

abbrev ids_by : Table → Select → Option (Unit {0})
ids_by t q = frame_of t q (ids_in t (out-Select q).first (out-Select q).order)

-- a SELECT of the rowids of the table, in their order
abbrev pub ids_of : Table → List ℕ → Option (Unit {0})
ids_of t text = whole_in text (ids_by t) (first text)

pub is_ids : (t : Table) (text : List ℕ) → ids_of t text ≡ Some tt → CountsParameters text 0 × IsIds t text
is_ids t text h =
    let it = is_whole text (ids_by t) tt h in
    let q = it.1.query in
    let frame = is_frame t q _ tt it.1.told in
    let bare = absent _ _ tt frame.2 in
    let s = got (λ s. option_and_then (λ so. shows_rowid t (out-Shown s) (sorts_rowid t so)) (single (out-Select q).order)) (single (out-Core (out-Select q).first).shown) tt bare.1 in
    let o = got (λ so. shows_rowid t (out-Shown s.0) (sorts_rowid t so)) (single (out-Select q).order) tt s.2 in
    (it.0, go it.1 frame.0 frame.1 bare.0 s.0 (alone _ _ s.1) o.0 (alone _ _ o.1) (out-Shown s.0) refl o.2)
  where
    go : (it : Queries (ids_by t) (first text) tt) (src : Source) → IsFrame t it.query (out-Select it.query).first src → (out-Core (out-Select it.query).first).filter ≡ None
        → (s : Shown) → (out-Core (out-Select it.query).first).shown ≡ s ∷ [] → (o : Sort) → (out-Select it.query).order ≡ o ∷ [] → (l : ShownLayer) → out-Shown s ≡ l → shows_rowid t l (sorts_rowid t o) ≡ Some tt → IsIds t text
    go it src frame bare s shown o order (Shown-F.One e None heading) out h =
        let e_is = is_rowid t e _ tt h in
        let down = not_so _ _ tt e_is.1 in
        let nulls = absent _ _ tt down.1 in
        let o_is = is_rowid t (out-Sort o).key _ tt nulls.1 in
        rowids it.read it.statement it.formats frame shown out e_is.0 bare order down.0 nulls.0 o_is.0
    go it src frame bare s shown o order _ out h = absurd (cc)

-- the places of the columns, in their order
abbrev pub places : List Declared → List ℕ
places [] = []
places (c ∷ cs) = 0 ∷ map suc (places cs)

abbrev all_by : Table → Shape → Option (List ℕ)
all_by t s = if_true (bytes_eq s.0 (places t.columns)) (if_nil s.1 (Some s.2))

abbrev all_in : Table → Select → Option (List ℕ)
all_in t q = option_and_then (all_by t) (choice_of t q)

-- the columns that a SELECT of all columns sorts by
abbrev pub all_of : Table → List ℕ → Option (List ℕ)
all_of t text = whole_in text (all_in t) (first text)

pub is_all : (t : Table) (text : List ℕ) (os : List ℕ) → all_of t text ≡ Some os → CountsParameters text 0 × IsSelect t text (places t.columns) [] os
is_all t text os h =
    let it = is_whole text (all_in t) os h in
    let shape = got (all_by t) (choice_of t it.1.query) os it.1.told in
    let shown = so _ _ os shape.2 in
    let bare = nil _ _ os shown.1 in
    let same : shape.0 ≡ (places t.columns, [], os) = three shape.0 (same_bytes _ _ shown.0) bare.0 (some_same bare.1) in
    (it.0, selects it.1.read it.1.statement it.1.formats (is_choice t it.1.query _ _ _ (shape.1 ∙ ap Some same)))
  where
    three : (z : Shape) → z.0 ≡ places t.columns → z.1 ≡ [] → z.2 ≡ os → z ≡ (places t.columns, [], os)
    three z a b c = λ i. (a i, b i, c i)

-- ---- INSERT

abbrev terms_in : Checked Given → Option (List Term × ℕ)
terms_in (Ok (Values terms width)) = Some (terms, width)
terms_in (Ok (Query q)) = None
terms_in (Err e) = None

are_terms : (r : Checked Given) (terms : List Term) (width : ℕ) → terms_in r ≡ Some (terms, width) → r ≡ Ok (Values terms width)
are_terms (Ok (Values ts w)) terms width h = let a : (ts, w) ≡ (terms, width) = cc in ap (λ (z : List Term × ℕ). Ok (Values z.0 z.1)) a
are_terms (Ok (Query q)) terms width h = absurd (cc)
are_terms (Err e) terms width h = absurd (cc)

abbrev insert_by : Schema → Table → ℕ → Statement → Option (List Term × ℕ)
insert_by schema t base (written.Insert conflict.Abort name columns rows [] []) = if_true (bytes_eq name t.name) (terms_in (new_rows schema t base columns rows))
insert_by schema t base _ = None

abbrev insert_in : Schema → Table → Checked Parsed → Option (List Term × ℕ)
insert_in schema t (Ok p) = if_nil p.formats (insert_by schema t (small p.names + small []) p.statement)
insert_in schema t (Err e) = None

-- the terms of the one row of an INSERT into the table, and how many they are
abbrev pub insert_of : Schema → Table → List ℕ → Option (List Term × ℕ)
insert_of schema t text = insert_in schema t (first text)

pub is_insert : (schema : Schema) (t : Table) (tree : ℕ) (text : List ℕ) (terms : List Term) (width : ℕ) → insert_of schema (record t { tree = tree }) text ≡ Some (terms, width) → IsInsert schema t tree text terms width
is_insert schema t tree text terms width h = go (first text) refl h
  where
    by : (p : Parsed) → first text ≡ Ok p → p.formats ≡ [] → (s : Statement) → p.statement ≡ s → insert_by schema (record t { tree = tree }) (small p.names + small []) s ≡ Some (terms, width) → IsInsert schema t tree text terms width
    by p read formats (written.Insert conflict.Abort name columns rows [] []) is h =
        let name_is = so _ _ (terms, width) h in
        adds read (is ∙ ap (λ n. written.Insert conflict.Abort n columns rows [] []) (same_bytes name t.name name_is.0)) formats (are_terms _ terms width name_is.1)
    by p read formats _ is h = absurd (cc)

    go : (r : Checked Parsed) → first text ≡ r → insert_in schema (record t { tree = tree }) r ≡ Some (terms, width) → IsInsert schema t tree text terms width
    go (Ok p) read h = let formats = nil _ _ (terms, width) h in by p read formats.0 p.statement refl formats.1
    go (Err e) read h = absurd (cc)
