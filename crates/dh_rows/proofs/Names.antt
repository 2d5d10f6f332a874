-- What the tests on a schema's foreign keys tell.
use Rattle.std.proofs.Common.{◌≡◌, ◌↔◌, List, [], ◌∷◌, ℕ, Bool, true, false, not, ◌&&◌, IsTrue, refl, true≢false, sym, ◌∙◌}
use Rattle.std.specs.List.{AllByRecursion, list_all}
use Rattle.sqlite_schema.specs.declared.schema.Table.{Table}
use Rattle.sqlite_schema.specs.declared.schema.Reference.{Reference}
use Rattle.sqlite_schema.specs.declared.schema.Schema.{Schema}
use Rattle.sqlite_schema.specs.Names.{same_name}
use Rattle.dh_rows.specs.Places.{IsUnmentioned}

split : (a b : Bool) → a && b ≡ true → (a ≡ true) × (b ≡ true)
split true b h = (refl, h)
split false b h = absurd (true≢false (sym h))

unless : (a : Bool) → not a ≡ true → a ≡ false
unless true h = absurd (true≢false (sym h))
unless false h = refl

module _ (name : List ℕ) where
  refs : (rs : List Reference) → list_all (λ ref. not (same_name name ref.parent)) rs ≡ true → AllByRecursion (λ ref. same_name name ref.parent ≡ false) rs
  refs [] h = tt
  refs (r ∷ rs) h = let both = split _ _ h in (unless _ both.0, refs rs both.1)

  refs_back : (rs : List Reference) → AllByRecursion (λ ref. same_name name ref.parent ≡ false) rs → list_all (λ ref. not (same_name name ref.parent)) rs ≡ true
  refs_back [] h = refl
  refs_back (r ∷ rs) h = rw (h.0, refs_back rs h.1) refl

  tables : (ts : List Table) → list_all (λ t. list_all (λ ref. not (same_name name ref.parent)) t.references) ts ≡ true → AllByRecursion (λ t. AllByRecursion (λ ref. same_name name ref.parent ≡ false) t.references) ts
  tables [] h = tt
  tables (t ∷ ts) h = let both = split _ _ h in (refs t.references both.0, tables ts both.1)

  tables_back : (ts : List Table) → AllByRecursion (λ t. AllByRecursion (λ ref. same_name name ref.parent ≡ false) t.references) ts → list_all (λ t. list_all (λ ref. not (same_name name ref.parent)) t.references) ts ≡ true
  tables_back [] h = refl
  tables_back (t ∷ ts) h = rw (refs_back t.references h.0, tables_back ts h.1) refl

pub unmentioned : (b : Bool) (schema : Schema) (name : List ℕ) → b ≡ list_all (λ t. list_all (λ ref. not (same_name name ref.parent)) t.references) schema.tables → IsTrue b ↔ IsUnmentioned schema name
unmentioned b schema name is = (λ h. tables name schema.tables (sym is ∙ h), λ h. is ∙ tables_back name schema.tables h)
