-- The tables of derived records stand or are made anew, and the others keep their records.
use Rattle.std.proofs.Common.{◌≡◌, ◌⊎◌, inl, inr, Bool, true, false, ℕ, ◌<◌, ◌^◌, List, [], ◌∷◌, codes, Result, Ok, Err, OnOk, refl, sym, ap, subst, ◌∙◌, lit≤}
use Rattle.std.specs.List.{AllByRecursion}
use Rattle.sqlite_schema.specs.declared.schema.Table.{Table}
use Rattle.sqlite_schema.specs.Names.{same_name}
use Rattle.sqlite_keyed.proofs.ListLemmas.{all_map, all_weaker}
use Rattle.sqlite_tied.specs.Compute.{everything}
use Rattle.sqlite_trees.specs.declared.store.Store.{Ghosts}
use Rattle.sqlite.specs.Does.{lacks_sequence}
use Rattle.sqlite.specs.Effect.{Database, IsDatabase}
use Rattle.sqlite.specs.Held.{Held, state}
use Rattle.sqlite.specs.State.{State}
use Rattle.dh_ports.specs.declared.fault.Fault.{Fault}
use Rattle.dh_rows.specs.Calls.{IsHonest}
use Rattle.dh_rows.specs.Keyed.{Coding, IsTableOf, records_in_rows}
use Rattle.dh_rows.specs.Places.{KeepsTable, StandsInSchema, records_of, rows_of}
use Rattle.dh_rows.proofs.Drop.{DropsTable, drops, drops_table}
use Rattle.dh_records.specs.Codings as coding
use Rattle.dh_records.specs.Constraints.{KeepsConstraints}
use Rattle.dh_records.specs.Lists.{Lists, base_of}
use Rattle.dh_records.specs.Typed.{IsProject, IsLanguage, IsVersion, IsPage, IsUsed, IsPick, IsPass, IsHeld, IsRule, IsRedirect, IsAlias, IsRoute}
use Rattle.dh_records.specs.declared.records.AliasRow.{AliasRow}
use Rattle.dh_records.specs.declared.records.RouteRow.{RouteRow}
use Rattle.dh_records.proofs.BaseLemmas.{constraints_of_base}
use Rattle.dh_schema.specs.Making.{BuildsTables, GoesOn, IsAdded, added_tables, derived_tables}
use Rattle.dh_schema.specs.Tables.{HoldsTables, lists_of, meta, meta_table, alias_table, route_table, project_table, lang_table, version_table, page_table, used_table, pick_table, pass_table, holds_table, rule_table, redirect_table}
use Rattle.dh_schema.specs.InTurn.{goes_anywhere, goes_none}
use Rattle.dh_migrating.specs.Converting.{CarriesTo, IsConverted, SparesOthers}
use Rattle.dh_migrating.proofs.StepLemmas.{carried_as, carried_on, true_then, was_honest}
use Rattle.dh_migrating.specs.OldPasses.{IsOldPass, old_lists_of, without_end}
use Rattle.dh_opening.specs.Dropping.{DropsIt}
use Rattle.dh_opening.specs.Opening.{CanDrop, HasDerived, IsDerivedBy, IsOurs, StandFor, other_tables}
use Rattle.dh_opening.specs.Filling.{AreMadeAnew, IsBrought, IsFilled, IsNotDerived, KeepsDerived}
use Rattle.dh_opening.specs.Migrating.{IsOld}

-- the table stands, and its rows stand for these records
abbrev pub Has : {X : Type 0} → Table → Coding X → (X → Type 0) → Database → List X → Type 0
Has t c P db xs = StandsInSchema db.schema t × StandFor c P t.name db xs

-- each of our tables of records does, and that of the number
pub record HasAll (db : Database) (l : Lists) : Type 0 where
  pub number : Has meta_table meta (λ n. n < 2 ^ 32) db (2 ∷ [])
  pub projects : Has project_table coding.projects IsProject db l.projects
  pub langs : Has lang_table coding.langs IsLanguage db l.langs
  pub versions : Has version_table coding.versions IsVersion db l.versions
  pub pages : Has page_table coding.pages IsPage db l.pages
  pub used : Has used_table coding.used IsUsed db l.used
  pub picks : Has pick_table coding.picks IsPick db l.picks
  pub passes : Has pass_table coding.passes IsPass db l.passes
  pub held : Has holds_table coding.held IsHeld db l.held
  pub rules : Has rule_table coding.rules IsRule db l.rules
  pub redirects : Has redirect_table coding.redirects IsRedirect db l.redirects

-- ---- a database that spares the tables of another

are_not_derived : AllByRecursion IsNotDerived (meta_table ∷ pass_table ∷ other_tables)
unfolding everything
are_not_derived = ((refl, (refl, tt)), ((refl, (refl, tt)), ((refl, (refl, tt)), ((refl, (refl, tt)), ((refl, (refl, tt)), ((refl, (refl, tt)), ((refl, (refl, tt)), ((refl, (refl, tt)), ((refl, (refl, tt)), ((refl, (refl, tt)), ((refl, (refl, tt)), tt)))))))))))

-- each table of ours but those of derived records stands with its rows
abbrev SparesRecords : Database → Database → Type 0
SparesRecords db after = (u : Table) → StandsInSchema db.schema u → IsNotDerived u → StandsInSchema after.schema u × (rows_of after u.name ≡ rows_of db u.name)

module _ (db after : Database) (spares : SparesRecords db after) where
  has_on : {X : Type 0} (t : Table) (c : Coding X) (P : X → Type 0) (xs : List X) → IsNotDerived t → Has t c P db xs → Has t c P after xs
  has_on t c P xs apart it =
      let o = spares t it.0 apart in
      (o.0, record { rows = subst (IsTableOf c) (sym o.1) it.1.rows; records = ap (records_in_rows c) o.1 ∙ it.1.records; typed = it.1.typed })

  all_on : (l : Lists) → HasAll db l → HasAll after l
  all_on l it =
      let apart = are_not_derived in
      record {
        number = has_on meta_table meta (λ n. n < 2 ^ 32) _ apart.0 it.number;
        projects = has_on project_table coding.projects IsProject _ apart.1.1.1.1.0 it.projects;
        langs = has_on lang_table coding.langs IsLanguage _ apart.1.1.1.1.1.0 it.langs;
        versions = has_on version_table coding.versions IsVersion _ apart.1.1.1.1.1.1.0 it.versions;
        pages = has_on page_table coding.pages IsPage _ apart.1.1.1.1.1.1.1.0 it.pages;
        used = has_on used_table coding.used IsUsed _ apart.1.1.1.1.1.1.1.1.0 it.used;
        picks = has_on pick_table coding.picks IsPick _ apart.1.1.1.1.1.1.1.1.1.0 it.picks;
        passes = has_on pass_table coding.passes IsPass _ apart.1.0 it.passes;
        held = has_on holds_table coding.held IsHeld _ apart.1.1.1.1.1.1.1.1.1.1.0 it.held;
        rules = has_on rule_table coding.rules IsRule _ apart.1.1.0 it.rules;
        redirects = has_on redirect_table coding.redirects IsRedirect _ apart.1.1.1.0 it.redirects;
      }

filled_spares : (derived : Bool) (db after : Database) → IsFilled derived db after → SparesRecords db after
filled_spares true db after still u was apart = subst (λ (d : Database). StandsInSchema d.schema u × (rows_of d u.name ≡ rows_of db u.name)) (sym still) (was, refl)
filled_spares false db after anew u was apart = anew.others u was apart

-- ---- all tables

module _ {X : Type 0} {t : Table} {c : Coding X} {P : X → Type 0} {db : Database} {xs : List X} (it : Has t c P db xs) where
  keeps : KeepsTable t c db
  keeps = record { stands = it.0; rows = it.1.rows }

  typed : AllByRecursion P (records_of c t.name db)
  typed = subst (AllByRecursion P) (sym it.1.records) it.1.typed

module _ (db : Database) (l : Lists) (it : HasAll db l) (names : List AliasRow) (ways : List RouteRow)
    (alias : Has alias_table coding.aliases IsAlias db names) (route : Has route_table coding.routes IsRoute db ways) where
  hold : HoldsTables db
  hold = record {
    meta = keeps it.number;
    number = it.number.1.records;
    projects = keeps it.projects;
    langs = keeps it.langs;
    versions = keeps it.versions;
    pages = keeps it.pages;
    used = keeps it.used;
    picks = keeps it.picks;
    passes = keeps it.passes;
    held = keeps it.held;
    rules = keeps it.rules;
    redirects = keeps it.redirects;
    aliases = keeps alias;
    routes = keeps route;
    typed = record {
      projects = typed it.projects;
      langs = typed it.langs;
      versions = typed it.versions;
      pages = typed it.pages;
      used = typed it.used;
      picks = typed it.picks;
      passes = typed it.passes;
      held = typed it.held;
      rules = typed it.rules;
      redirects = typed it.redirects;
      aliases = typed alias;
      routes = typed route;
    };
  }

  base : base_of (lists_of db) ≡ base_of l
  base i = record {
    projects = it.projects.1.records i;
    langs = it.langs.1.records i;
    versions = it.versions.1.records i;
    pages = it.pages.1.records i;
    used = it.used.1.records i;
    picks = it.picks.1.records i;
    passes = it.passes.1.records i;
    held = it.held.1.records i;
    rules = it.rules.1.records i;
    redirects = it.redirects.1.records i;
    aliases = [];
    routes = [];
  }

-- ---- the tables of derived records

-- where a database had them they stand with what they had
abbrev DerivedStay : Bool → Database → Database → Type 0
DerivedStay true before db = HasDerived before × Has alias_table coding.aliases IsAlias db (lists_of before).aliases × Has route_table coding.routes IsRoute db (lists_of before).routes
DerivedStay false before db = ¬ HasDerived before

derives : (derived : Bool) (db : Database) → IsDerivedBy derived db → DerivedStay derived db db
derives true db has = (has, (has.alone.0.stands, has.aliases), (has.alone.1.0.stands, has.routes))
derives false db lacks = lacks.0

none : {X : Type 0} (c : Coding X) → IsTableOf c []
none c = record { coded = tt; apart = tt; keyed = tt }

bare : {X : Type 0} (t : Table) (c : Coding X) (P : X → Type 0) (db : Database) → StandsInSchema db.schema t × (rows_of db t.name ≡ []) → Has t c P db []
bare t c P db it = (it.0, record { rows = subst (IsTableOf c) (sym it.1) (none c); records = ap (records_in_rows c) it.1; typed = tt })

-- what they have then
record Got (before after : Database) : Type 0 where
  names : List AliasRow
  ways : List RouteRow
  alias : Has alias_table coding.aliases IsAlias after names
  route : Has route_table coding.routes IsRoute after ways
  own : (HasDerived before × (names ≡ (lists_of before).aliases) × (ways ≡ (lists_of before).routes)) ⊎ ((¬ HasDerived before) × (names ≡ []) × (ways ≡ []))

got : (derived : Bool) (before db after : Database) → DerivedStay derived before db → IsFilled derived db after → Got before after
got true before db after it still = record {
  names = (lists_of before).aliases;
  ways = (lists_of before).routes;
  alias = subst (λ d. Has alias_table coding.aliases IsAlias d (lists_of before).aliases) (sym still) it.1;
  route = subst (λ d. Has route_table coding.routes IsRoute d (lists_of before).routes) (sym still) it.2;
  own = inl (it.0, refl, refl);
}
got false before db after lacks anew = record {
  names = [];
  ways = [];
  alias = bare alias_table coding.aliases IsAlias after anew.made.1.0;
  route = bare route_table coding.routes IsRoute after anew.made.0;
  own = inr (lacks, refl, refl);
}

own_are : (before after : Database) (it : Got before after) → KeepsDerived before (lists_of after)
own_are before after it = go it.own
  where
    go : (HasDerived before × (it.names ≡ (lists_of before).aliases) × (it.ways ≡ (lists_of before).routes)) ⊎ ((¬ HasDerived before) × (it.names ≡ []) × (it.ways ≡ [])) → KeepsDerived before (lists_of after)
    go (inl had) = inl (had.0, it.alias.1.records ∙ had.1, it.route.1.records ∙ had.2)
    go (inr none) = inr (none.0, it.alias.1.records ∙ none.1, it.route.1.records ∙ none.2)

-- ---- what is brought about

brought : (derived : Bool) (before db after : Database) (l : Lists) → base_of l ≡ l → HasAll db l → KeepsConstraints l → DerivedStay derived before db → IsFilled derived db after → IsBrought l before after
brought derived before db after l plain has kept stay filled =
    let it = got derived before db after stay filled in
    let all = all_on db after (filled_spares derived db after filled) l has in
    let same : base_of (lists_of after) ≡ l = base after l all it.names it.ways it.alias it.route ∙ plain in
    record {
      holds = hold after l all it.names it.ways it.alias it.route;
      keeps = constraints_of_base (lists_of after) (subst KeepsConstraints (sym same) kept);
      base = same;
      derived = own_are before after it;
    }

ours_have : (db : Database) → IsOurs db → HasAll db (base_of (lists_of db))
ours_have db it =
    let s = it.kept.spelled in
    record {
      number = (it.number.alone.stands, it.number.stands);
      projects = (it.alone.1.1.1.0.stands, s.projects);
      langs = (it.alone.1.1.1.1.0.stands, s.langs);
      versions = (it.alone.1.1.1.1.1.0.stands, s.versions);
      pages = (it.alone.1.1.1.1.1.1.0.stands, s.pages);
      used = (it.alone.1.1.1.1.1.1.1.0.stands, s.used);
      picks = (it.alone.1.1.1.1.1.1.1.1.0.stands, s.picks);
      passes = (it.alone.0.stands, it.passes);
      held = (it.alone.1.1.1.1.1.1.1.1.1.0.stands, s.held);
      rules = (it.alone.1.0.stands, s.rules);
      redirects = (it.alone.1.1.0.stands, s.redirects);
    }

-- tables that were ours
pub ours_brought : (derived : Bool) (db after : Database) → IsOurs db → IsDerivedBy derived db → IsFilled derived db after → IsBrought (base_of (lists_of db)) db after
ours_brought derived db after it by filled = brought derived db db after (base_of (lists_of db)) refl (ours_have db it) it.kept.keeps (derives derived db by) filled

-- ---- tables of schema 1

abbrev Apart : Table → Type 0
Apart t = (same_name t.name (codes "pass") ≡ false) × (same_name t.name (codes "meta") ≡ false)

are_apart : AllByRecursion Apart other_tables
unfolding everything
are_apart = ((refl, refl), ((refl, refl), ((refl, refl), ((refl, refl), ((refl, refl), ((refl, refl), ((refl, refl), ((refl, refl), ((refl, refl), tt)))))))))

derived_apart : AllByRecursion Apart derived_tables
unfolding everything
derived_apart = ((refl, refl), ((refl, refl), tt))

module _ (before between : Database) (old : IsOld before) (it : IsConverted (old_lists_of before).passes before between) where
  -- a table that did not change keeps its records
  kept : {X : Type 0} (t : Table) (c : Coding X) (P : X → Type 0) (xs : List X) → Apart t → Has t c P before xs → Has t c P between xs
  kept t c P xs apart was =
      let o = it.others t was.0 apart.0 apart.1 in
      (o.0, record { rows = subst (IsTableOf c) (sym o.1) was.1.rows; records = ap (records_in_rows c) o.1 ∙ was.1.records; typed = was.1.typed })

  old_have : HasAll between (old_lists_of before)
  old_have =
      let s = old.kept.spelled in
      let alone = old.tables.alone in
      record {
        number = (it.meta.stands, record { rows = it.meta.rows; records = it.number; typed = (lit≤ tt, tt) });
        projects = kept project_table coding.projects IsProject _ are_apart.1.1.0 (alone.1.1.1.0.stands, s.projects);
        langs = kept lang_table coding.langs IsLanguage _ are_apart.1.1.1.0 (alone.1.1.1.1.0.stands, s.langs);
        versions = kept version_table coding.versions IsVersion _ are_apart.1.1.1.1.0 (alone.1.1.1.1.1.0.stands, s.versions);
        pages = kept page_table coding.pages IsPage _ are_apart.1.1.1.1.1.0 (alone.1.1.1.1.1.1.0.stands, s.pages);
        used = kept used_table coding.used IsUsed _ are_apart.1.1.1.1.1.1.0 (alone.1.1.1.1.1.1.1.0.stands, s.used);
        picks = kept pick_table coding.picks IsPick _ are_apart.1.1.1.1.1.1.1.0 (alone.1.1.1.1.1.1.1.1.0.stands, s.picks);
        passes = (
          it.keeps.stands,
          record {
            rows = it.keeps.rows;
            records = it.passes;
            typed = all_map IsPass without_end _ (all_weaker IsOldPass (λ x. IsPass (without_end x)) (λ x typed. record { host = typed.host; pass = typed.pass; until = tt }) _ old.passes.typed);
          },
        );
        held = kept holds_table coding.held IsHeld _ are_apart.1.1.1.1.1.1.1.1.0 (alone.1.1.1.1.1.1.1.1.1.0.stands, s.held);
        rules = kept rule_table coding.rules IsRule _ are_apart.0 (alone.1.0.stands, s.rules);
        redirects = kept redirect_table coding.redirects IsRedirect _ are_apart.1.0 (alone.1.1.0.stands, s.redirects);
      }

  old_derives : (derived : Bool) → IsDerivedBy derived before → DerivedStay derived before between
  old_derives true has = (has, kept alias_table coding.aliases IsAlias _ derived_apart.0 (has.alone.0.stands, has.aliases), kept route_table coding.routes IsRoute _ derived_apart.1.0 (has.alone.1.0.stands, has.routes))
  old_derives false lacks = lacks.0

  pub old_brought : (derived : Bool) (after : Database) → IsDerivedBy derived before → IsFilled derived between after → IsBrought (old_lists_of before) before after
  old_brought derived after by filled = brought derived before between after (old_lists_of before) refl old_have old.kept.keeps (old_derives derived by) filled

-- ---- dropping, and making anew

pub drop_asks : (s : State) (t : Table) (text : List ℕ) → t.is_counted ≡ false → DropsIt text t.name → IsDatabase s.now → CanDrop s.now.schema t → lacks_sequence s.now.schema ≡ false → DropsTable s text t
drop_asks s t text uncounted it sound can counted = drops_table t text it.drops uncounted it.apart s sound can.0.stands can.0.lone can.0.unmentioned can.1 counted

pub alias_drops : DropsIt (codes "DROP TABLE alias") (codes "alias")
unfolding everything
alias_drops = record { drops = drops refl refl refl refl; apart = refl }

pub route_drops : DropsIt (codes "DROP TABLE route") (codes "route")
unfolding everything
route_drops = record { drops = drops refl refl refl refl; apart = refl }

anew : (before dropped bare after : Database) → SparesOthers (codes "alias") before dropped → SparesOthers (codes "route") dropped bare → IsAdded added_tables [] bare after → AreMadeAnew before after
anew before dropped bare after first second added = record {
  made = added.ready.standing;
  others = λ u was apart. let o = first u was apart.0 in let n = second u o.0 apart.1.0 in let l = added.others u n.0 in (l.0, l.1 ∙ n.1 ∙ o.1);
}

module _ {S : Type 0} {g : Ghosts S} where
  carried_built : {old new : Held S} {r : Result (Unit {0}) Fault} {P : Database → Type 0} → BuildsTables g old new r P → CarriesTo g old new r P
  carried_built {old} {new} {r} {P} it = record { goes = it.goes; made = λ honest clean. go r (it.made honest clean) }
    where
      go : (r : Result (Unit {0}) Fault) → OnOk r (GoesOn g old new × P (state g new).now) → OnOk r (IsHonest g new × (new.in_transaction ≡ old.in_transaction) × P (state g new).now)
      go (Ok u) h = (h.0.honest, h.0.mode, h.1)
      go (Err e) h = tt

  -- nothing is done
  pub carried_nothing : (h : Held S) (P : Database → Type 0) → (IsHonest g h → P (state g h).now) → CarriesTo g h h (Ok tt) P
  carried_nothing h P is = record { goes = goes_anywhere (goes_none h); made = λ honest clean. (honest, refl, is honest) }

  module _ {a b c : Held S} (first : CarriesTo g a b (Ok tt) (SparesOthers (codes "alias") (state g a).now)) (second : CarriesTo g b c (Ok tt) (SparesOthers (codes "route") (state g b).now)) where
    pub made_anew : {d : Held S} {r : Result (Unit {0}) Fault} → BuildsTables g c d r (IsAdded added_tables [] (state g c).now) → CarriesTo g a d r (AreMadeAnew (state g a).now)
    made_anew it = carried_on first (carried_on second (carried_as (λ honest db added. anew (state g a).now (state g b).now (state g c).now db (true_then first (was_honest second honest)) (true_then second honest) added) (carried_built it)))

    -- tables that cannot be made
    pub not_made : (fault : Fault) → CarriesTo g a c (Err fault) (AreMadeAnew (state g a).now)
    not_made fault = record { goes = (carried_on first second).goes; made = λ honest clean. tt }
