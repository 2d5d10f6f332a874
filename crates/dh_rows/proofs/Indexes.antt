-- The unique indexes of a table: those that CREATE TABLE makes, and what the one of its key tells.
use Rattle.std.proofs.Common.{◌≡◌, ◌<◌, ℕ, zero, suc, ◌+◌, ◌==◌, ◌&&◌, ◌||◌, List, [], ◌∷◌, ◌++◌, map, filter, find, Bool, true, false, cond, None, Some, refl, ap, ap₂, ◌∙◌, arith, slice_index_or, length, option_map, bytes_eq, append-nil, ne_eqb, eq-eqb, Ok}
use Rattle.std.specs.List.{AllByRecursion, list_any}
use Rattle.std.proofs.lemmas.List.Elements.{filter-append}
use Rattle.sqlite_value.specs.declared.keys.Order.{Order}
use Rattle.sqlite_value.specs.Keys.{plain}
use Rattle.sqlite_value.specs.Order.{Row}
use Rattle.sqlite_keyed.proofs.ListLemmas.{filter_none}
use Rattle.sqlite_rules.specs.Lists.{Has}
use Rattle.sqlite_rules.proofs.ListLemmas.{all_from}
use Rattle.sqlite_rules.specs.Keys.{conflicts, shares}
use Rattle.sqlite_schema.specs.declared.schema.Table.{Table}
use Rattle.sqlite_schema.specs.declared.schema.Index.{Index}
use Rattle.sqlite_schema.specs.declared.schema.Schema.{Schema}
use Rattle.sqlite_schema.specs.Rules.{agree}
use Rattle.sqlite_catalog.specs.Listing.{IsIndexRow}
use Rattle.sqlite_catalog.specs.Change.{created, next_tree, automatics}
use Rattle.sqlite_catalog.proofs.LayoutLemmas.{zipped_left, index_owner}
use Rattle.sqlite_catalog.proofs.StepLemmas.{table_below}
use Rattle.sqlite_resolve.specs.Given.{is_key_at, key_at, are_among}
use Rattle.sqlite_resolve.specs.Lowering.{or_else}
use Rattle.sqlite_resolve.specs.declared.error.CompileError.TheVariants.{Misuse}
use Rattle.sqlite.specs.Effect.{Database, IsDatabase}
use Rattle.dh_rows.specs.Places.{unique_keys, ArePlaced}

-- ---- what CREATE TABLE makes of them

abbrev key_of : Index → List ℕ × Order
key_of i = (i.columns, i.order)

abbrev bytewise : List ℕ → List ℕ × Order
bytewise places = (places, plain)

abbrev is_on : ℕ → Index → Bool
is_on tree i = i.is_unique && (i.table == tree)

-- in a sound database each index is on a table that is there
pub placed : (db : Database) → IsDatabase db → ArePlaced db.schema
placed db sound = all_from _ db.schema.indexes (λ i h. let r = zipped_left (IsIndexRow db.schema.tables) _ db.schema.indexes i sound.lists.listed.indexes h in (r.2.table, r.2.listed, index_owner r.2.table i _ r.2.defined))

off : (schema : Schema) → ArePlaced schema → AllByRecursion (λ i. is_on (next_tree schema) i ≡ false) schema.indexes
off schema fine = each schema.indexes fine
  where
    fails : (b : Bool) → b && false ≡ false
    fails true = refl
    fails false = refl

    each : (is : List Index) → AllByRecursion (λ i. (t : Table) × Has schema.tables t × (i.table ≡ t.tree)) is → AllByRecursion (λ i. is_on (next_tree schema) i ≡ false) is
    each [] h = tt
    each (i ∷ is) h =
        let low : i.table < next_tree schema = let b = table_below schema h.0.0 h.0.1 in rw h.0.2 b in
        (ap (λ b. i.is_unique && b) (ne_eqb i.table (next_tree schema) (λ e. omega (arith, low, e))) ∙ fails i.is_unique, each is h.1)

plain_at : (os : List Order) (at : ℕ) → AllByRecursion (λ o. o ≡ plain) os → slice_index_or os at plain ≡ plain
plain_at [] at all = refl
plain_at (o ∷ os) zero all = all.0
plain_at (o ∷ os) (suc at) all = plain_at os at all.1

module _ (new : Table) where
  made_off : (tree : ℕ) → new.tree == tree ≡ false → (at from : ℕ) (keys : List (List ℕ)) → filter (is_on tree) (automatics new at from keys) ≡ []
  made_off tree e at from [] = refl
  made_off tree e at from (key ∷ keys) = rw e (made_off tree e (at + 1) (from + 1) keys)

  made_on : AllByRecursion (λ o. o ≡ plain) new.orders → (at from : ℕ) (keys : List (List ℕ)) → map key_of (filter (is_on new.tree) (automatics new at from keys)) ≡ map bytewise keys
  made_on all at from [] = refl
  made_on all at from (key ∷ keys) = rw (eq-eqb new.tree new.tree refl) (ap₂ (λ o more. (key, o) ∷ more) (plain_at new.orders at all) (made_on all (at + 1) (from + 1) keys))

module _ (schema : Schema) (t : Table) where
  abbrev new : Table
  new = record t { tree = next_tree schema }

  abbrev made : List Index
  made = automatics new 0 (next_tree schema + 1) t.uniques

  -- another table has those that it had
  pub keyed_kept : (tree : ℕ) → tree < next_tree schema → unique_keys (created schema t) tree ≡ unique_keys schema tree
  keyed_kept tree low =
      ap (map key_of) (filter-append (is_on tree) schema.indexes made ∙ ap (λ l. filter (is_on tree) schema.indexes ++ l) (made_off new tree (other tree low) 0 (next_tree schema + 1) t.uniques) ∙ append-nil _)
    where
      other : (tree : ℕ) → tree < next_tree schema → next_tree schema == tree ≡ false
      other tree low = ne_eqb _ _ (λ e. omega (arith, low, e))

  -- and the new one has those of its keys
  pub keyed_made : ArePlaced schema → AllByRecursion (λ o. o ≡ plain) t.orders → unique_keys (created schema t) (next_tree schema) ≡ map bytewise t.uniques
  keyed_made fine all =
      ap (map key_of) (filter-append (is_on (next_tree schema)) schema.indexes made ∙ ap (λ l. l ++ filter (is_on (next_tree schema)) made) (filter_none _ schema.indexes (off schema fine)))
      ∙ made_on new all 0 (next_tree schema + 1) t.uniques

-- ---- where there is one

module _ {A : Type 0} (p : A → Bool) where
  none_found : (r : A → Bool) (xs : List A) → filter p xs ≡ [] → find (λ x. p x && r x) xs ≡ None
  none_found r [] e = refl
  none_found r (x ∷ xs) e = go (p x) e (none_found r xs)
    where
      go : (b : Bool) → cond b (x ∷ filter p xs) (filter p xs) ≡ [] → (filter p xs ≡ [] → find (λ x. p x && r x) xs ≡ None) → cond (b && r x) (Some x) (find (λ x. p x && r x) xs) ≡ None
      go true e rec = absurd (cc)
      go false e rec = rec e

  one_found : (r : A → Bool) (xs : List A) (i : A) → filter p xs ≡ i ∷ [] → r i ≡ true → find (λ x. p x && r x) xs ≡ Some i
  one_found r [] i e hit = absurd (cc)
  one_found r (x ∷ xs) i e hit = go (p x) e (one_found r xs i)
    where
      go : (b : Bool) → cond b (x ∷ filter p xs) (filter p xs) ≡ i ∷ [] → (filter p xs ≡ i ∷ [] → r i ≡ true → find (λ x. p x && r x) xs ≡ Some i) → cond (b && r x) (Some x) (find (λ x. p x && r x) xs) ≡ Some i
      go true e rec = let same : x ≡ i = cc in rw (ap r same ∙ hit) (ap Some same)
      go false e rec = rec e hit

  none_any : (r : A → Bool) (xs : List A) → filter p xs ≡ [] → list_any (λ x. p x && r x) xs ≡ false
  none_any r [] e = refl
  none_any r (x ∷ xs) e = go (p x) e (none_any r xs)
    where
      go : (b : Bool) → cond b (x ∷ filter p xs) (filter p xs) ≡ [] → (filter p xs ≡ [] → list_any (λ x. p x && r x) xs ≡ false) → ◌||◌ (b && r x) (list_any (λ x. p x && r x) xs) ≡ false
      go true e rec = absurd (cc)
      go false e rec = rec e

  one_any : (r : A → Bool) (xs : List A) (i : A) → filter p xs ≡ i ∷ [] → list_any (λ x. p x && r x) xs ≡ r i
  one_any r [] i e = absurd (cc)
  one_any r (x ∷ xs) i e = go (p x) e (one_any r xs i)
    where
      either : (b : Bool) → ◌||◌ b false ≡ b
      either true = refl
      either false = refl

      go : (b : Bool) → cond b (x ∷ filter p xs) (filter p xs) ≡ i ∷ [] → (filter p xs ≡ i ∷ [] → list_any (λ x. p x && r x) xs ≡ r i) → ◌||◌ (b && r x) (list_any (λ x. p x && r x) xs) ≡ r i
      go true e rec = let same : x ≡ i = cc in let rest : filter p xs ≡ [] = cc in rw (none_any r xs rest) (either (r x) ∙ ap r same)
      go false e rec = rec e

-- its one unique index
record Sole (schema : Schema) (tree : ℕ) (key : List ℕ) : Type 0 where
  index : Index
  only : filter (is_on tree) schema.indexes ≡ index ∷ []
  columns : index.columns ≡ key
  order : index.order ≡ plain

sole : (schema : Schema) (tree : ℕ) (key : List ℕ) → unique_keys schema tree ≡ (key, plain) ∷ [] → Sole schema tree key
sole schema tree key e = go (filter (is_on tree) schema.indexes) refl e
  where
    go : (is : List Index) → filter (is_on tree) schema.indexes ≡ is → map key_of is ≡ (key, plain) ∷ [] → Sole schema tree key
    go [] only e = absurd (cc)
    go (i ∷ []) only e = let same : (i.columns, i.order) ≡ (key, plain) = cc in record { index = i; only = only; columns = ap (λ (z : List ℕ × Order). z.0) same; order = ap (λ (z : List ℕ × Order). z.1) same }
    go (i ∷ j ∷ more) only e = absurd (cc)

three : (a b c : Bool) → ((a && b) && c) ≡ (a && (b && c))
three true b c = refl
three false b c = refl

four : (a b c d : Bool) → (((a && b) && c) && d) ≡ (a && ((b && c) && d))
four true b c d = refl
four false b c d = refl

module _ (schema : Schema) (table : Table) (key : List ℕ) (keyed : unique_keys schema table.tree ≡ (key, plain) ∷ []) (apart : bytes_eq key (0 ∷ []) ≡ false) where
  abbrev it : Sole schema table.tree key
  it = sole schema table.tree key keyed

  -- ON CONFLICT finds the key
  pub key_found : (length key == length key) && are_among key key && are_among key key ≡ true → key_at schema table key ≡ Ok key
  unfolding key_at is_key_at
  key_found same =
      let r : Index → Bool = λ i. (length i.columns == length key) && are_among key i.columns && are_among i.columns key in
      let is : find (is_key_at table key) schema.indexes ≡ find (λ i. is_on table.tree i && r i) schema.indexes =
      (λ j. find (λ i. four (i.is_unique && (i.table == table.tree)) (length i.columns == length key) (are_among key i.columns) (are_among i.columns key) j) schema.indexes) in
      let hit : r it.index ≡ true = ap (λ c. (length c == length key) && are_among key c && are_among c key) it.columns ∙ same in
      rw apart (ap (λ o. or_else (option_map (λ (i : Index). i.columns) o) Misuse) (is ∙ one_found (is_on table.tree) r schema.indexes it.index it.only hit) ∙ ap Ok it.columns)

  -- a row conflicts where it agrees with the key
  pub conflict_is : bytes_eq key key ≡ true → (new r : Row) → conflicts (Some key) schema.indexes table new r ≡ agree plain key r key new
  conflict_is same new r =
      let s : Index → Bool = λ i. bytes_eq key i.columns && agree i.order i.columns r i.columns new in
      let is : list_any (shares (Some key) table new r) schema.indexes ≡ list_any (λ i. is_on table.tree i && s i) schema.indexes =
      (λ j. list_any (λ i. three (i.is_unique && (i.table == table.tree)) (bytes_eq key i.columns) (agree i.order i.columns r i.columns new) j) schema.indexes) in
      rw apart (is ∙ one_any (is_on table.tree) s schema.indexes it.index it.only ∙ ap₂ (λ c o. bytes_eq key c && agree o c r c new) it.columns it.order ∙ rw same refl)
