-- The two queries of each table, read once: of its rowids, and of its rows in the order of their keys.
use Rattle.std.proofs.Common.{ℕ, List, [], ◌∷◌, codes, refl}
use Rattle.sqlite_tied.specs.Compute.{everything}
use Rattle.dh_rows.proofs.Whole.{AreTextsOf, IsCodingOf}
use Rattle.dh_records.specs.Codings.{projects, langs, versions, pages, used, picks, passes, held, rules, redirects, aliases, routes}
use Rattle.dh_schema.specs.Tables.{meta, meta_table, project_table, lang_table, version_table, page_table, used_table, pick_table, pass_table, holds_table, rule_table, redirect_table, alias_table, route_table}
use Rattle.dh_schema.specs.ColumnLemmas as columns
use Rattle.dh_migrating.specs.OldPasses.{old_pass_table, old_passes}

-- ---- project

abbrev pub project_ids : List ℕ
project_ids = codes "SELECT rowid FROM project ORDER BY rowid"

abbrev pub project_rows_text : List ℕ
project_rows_text = codes "SELECT host, main, branch, wkey, private FROM project ORDER BY host"

pub project_reads : AreTextsOf project_table project_ids project_rows_text (0 ∷ [])
unfolding everything
project_reads = record { simple = columns.project_simple; plain = columns.project_plain; ids_read = refl; all_read = refl }

pub project_suits : IsCodingOf project_table projects (0 ∷ [])
project_suits = record { back = columns.project_back; wide = λ x. refl; full = λ x. refl; keys = λ x. refl; sorts = λ x y. refl }

-- ---- lang

abbrev pub lang_ids : List ℕ
lang_ids = codes "SELECT rowid FROM lang ORDER BY rowid"

abbrev pub lang_rows : List ℕ
lang_rows = codes "SELECT host, lang, place FROM lang ORDER BY host, place"

pub lang_reads : AreTextsOf lang_table lang_ids lang_rows (0 ∷ 2 ∷ [])
unfolding everything
lang_reads = record { simple = columns.lang_simple; plain = columns.lang_plain; ids_read = refl; all_read = refl }

pub lang_suits : IsCodingOf lang_table langs (0 ∷ 2 ∷ [])
lang_suits = record { back = columns.lang_back; wide = λ x. refl; full = λ x. refl; keys = λ x. refl; sorts = λ x y. refl }

-- ---- version

abbrev pub version_ids : List ℕ
version_ids = codes "SELECT rowid FROM version ORDER BY rowid"

abbrev pub version_rows : List ℕ
version_rows = codes "SELECT host, slug, name, kind, active, hidden, private FROM version ORDER BY host, slug"

pub version_reads : AreTextsOf version_table version_ids version_rows (0 ∷ 1 ∷ [])
unfolding everything
version_reads = record { simple = columns.version_simple; plain = columns.version_plain; ids_read = refl; all_read = refl }

pub version_suits : IsCodingOf version_table versions (0 ∷ 1 ∷ [])
version_suits = record { back = columns.version_back; wide = λ x. refl; full = λ x. refl; keys = λ x. refl; sorts = λ x y. refl }

-- ---- page

abbrev pub page_ids : List ℕ
page_ids = codes "SELECT rowid FROM page ORDER BY rowid"

abbrev pub page_rows : List ℕ
page_rows = codes "SELECT host, slug, lang, path, media, body FROM page ORDER BY host, slug, lang, path"

pub page_reads : AreTextsOf page_table page_ids page_rows (0 ∷ 1 ∷ 2 ∷ 3 ∷ [])
unfolding everything
page_reads = record { simple = columns.page_simple; plain = columns.page_plain; ids_read = refl; all_read = refl }

pub page_suits : IsCodingOf page_table pages (0 ∷ 1 ∷ 2 ∷ 3 ∷ [])
page_suits = record { back = columns.page_back; wide = λ x. refl; full = λ x. refl; keys = λ x. refl; sorts = λ x y. refl }

-- ---- used

abbrev pub used_ids : List ℕ
used_ids = codes "SELECT rowid FROM used ORDER BY rowid"

abbrev pub used_rows : List ℕ
used_rows = codes "SELECT host, slug, op, retry, answer FROM used ORDER BY host, slug, op, retry"

pub used_reads : AreTextsOf used_table used_ids used_rows (0 ∷ 1 ∷ 2 ∷ 3 ∷ [])
unfolding everything
used_reads = record { simple = columns.used_simple; plain = columns.used_plain; ids_read = refl; all_read = refl }

pub used_suits : IsCodingOf used_table used (0 ∷ 1 ∷ 2 ∷ 3 ∷ [])
used_suits = record { back = columns.used_back; wide = λ x. refl; full = λ x. refl; keys = λ x. refl; sorts = λ x y. refl }

-- ---- pick

abbrev pub pick_ids : List ℕ
pick_ids = codes "SELECT rowid FROM pick ORDER BY rowid"

abbrev pub pick_rows : List ℕ
pick_rows = codes "SELECT host, name, rank FROM pick ORDER BY host, rank"

pub pick_reads : AreTextsOf pick_table pick_ids pick_rows (0 ∷ 2 ∷ [])
unfolding everything
pick_reads = record { simple = columns.pick_simple; plain = columns.pick_plain; ids_read = refl; all_read = refl }

pub pick_suits : IsCodingOf pick_table picks (0 ∷ 2 ∷ [])
pick_suits = record { back = columns.pick_back; wide = λ x. refl; full = λ x. refl; keys = λ x. refl; sorts = λ x y. refl }

-- ---- pass

abbrev pub pass_ids : List ℕ
pass_ids = codes "SELECT rowid FROM pass ORDER BY rowid"

abbrev pub pass_rows : List ℕ
pass_rows = codes "SELECT host, pass, until FROM pass ORDER BY host, pass"

pub pass_reads : AreTextsOf pass_table pass_ids pass_rows (0 ∷ 1 ∷ [])
unfolding everything
pass_reads = record { simple = columns.pass_simple; plain = columns.pass_plain; ids_read = refl; all_read = refl }

pub pass_suits : IsCodingOf pass_table passes (0 ∷ 1 ∷ [])
pass_suits = record { back = columns.pass_back; wide = λ x. refl; full = λ x. refl; keys = λ x. refl; sorts = λ x y. refl }

-- ---- pass, of schema 1

abbrev pub old_pass_rows : List ℕ
old_pass_rows = codes "SELECT host, pass FROM pass ORDER BY host, pass"

pub old_pass_reads : AreTextsOf old_pass_table pass_ids old_pass_rows (0 ∷ 1 ∷ [])
unfolding everything
old_pass_reads = record { simple = refl; plain = ((refl, refl), ((refl, refl), tt)); ids_read = refl; all_read = refl }

pub old_pass_suits : IsCodingOf old_pass_table old_passes (0 ∷ 1 ∷ [])
old_pass_suits = record { back = λ x n. refl; wide = λ x. refl; full = λ x. refl; keys = λ x. refl; sorts = λ x y. refl }

-- ---- holds

abbrev pub holds_ids : List ℕ
holds_ids = codes "SELECT rowid FROM holds ORDER BY rowid"

abbrev pub holds_rows : List ℕ
holds_rows = codes "SELECT host, pass, slug FROM holds ORDER BY host, pass, slug"

pub holds_reads : AreTextsOf holds_table holds_ids holds_rows (0 ∷ 1 ∷ 2 ∷ [])
unfolding everything
holds_reads = record { simple = columns.holds_simple; plain = columns.holds_plain; ids_read = refl; all_read = refl }

pub holds_suits : IsCodingOf holds_table held (0 ∷ 1 ∷ 2 ∷ [])
holds_suits = record { back = columns.holds_back; wide = λ x. refl; full = λ x. refl; keys = λ x. refl; sorts = λ x y. refl }

-- ---- rule

abbrev pub rule_ids : List ℕ
rule_ids = codes "SELECT rowid FROM rule ORDER BY rowid"

abbrev pub rule_rows : List ℕ
rule_rows = codes "SELECT host, place, kind, action, pattern FROM rule ORDER BY host, place"

pub rule_reads : AreTextsOf rule_table rule_ids rule_rows (0 ∷ 1 ∷ [])
unfolding everything
rule_reads = record { simple = columns.rule_simple; plain = columns.rule_plain; ids_read = refl; all_read = refl }

pub rule_suits : IsCodingOf rule_table rules (0 ∷ 1 ∷ [])
rule_suits = record { back = columns.rule_back; wide = λ x. refl; full = λ x. refl; keys = λ x. refl; sorts = λ x y. refl }

-- ---- redirect

abbrev pub redirect_ids : List ℕ
redirect_ids = codes "SELECT rowid FROM redirect ORDER BY rowid"

abbrev pub redirect_rows : List ℕ
redirect_rows = codes "SELECT host, place, kind, status, force, source, target FROM redirect ORDER BY host, place"

pub redirect_reads : AreTextsOf redirect_table redirect_ids redirect_rows (0 ∷ 1 ∷ [])
unfolding everything
redirect_reads = record { simple = columns.redirect_simple; plain = columns.redirect_plain; ids_read = refl; all_read = refl }

pub redirect_suits : IsCodingOf redirect_table redirects (0 ∷ 1 ∷ [])
redirect_suits = record { back = columns.redirect_back; wide = λ x. refl; full = λ x. refl; keys = λ x. refl; sorts = λ x y. refl }

-- ---- alias

abbrev pub alias_ids : List ℕ
alias_ids = codes "SELECT rowid FROM alias ORDER BY rowid"

abbrev pub alias_rows : List ℕ
alias_rows = codes "SELECT host, class, name, slug FROM alias ORDER BY host, class, name"

pub alias_reads : AreTextsOf alias_table alias_ids alias_rows (0 ∷ 1 ∷ 2 ∷ [])
unfolding everything
alias_reads = record { simple = columns.alias_simple; plain = columns.alias_plain; ids_read = refl; all_read = refl }

pub alias_suits : IsCodingOf alias_table aliases (0 ∷ 1 ∷ 2 ∷ [])
alias_suits = record { back = columns.alias_back; wide = λ x. refl; full = λ x. refl; keys = λ x. refl; sorts = λ x y. refl }

-- ---- route

abbrev pub route_ids : List ℕ
route_ids = codes "SELECT rowid FROM route ORDER BY rowid"

abbrev pub route_rows : List ℕ
route_rows = codes "SELECT host, seg, place, force FROM route ORDER BY host, seg, place"

pub route_reads : AreTextsOf route_table route_ids route_rows (0 ∷ 1 ∷ 2 ∷ [])
unfolding everything
route_reads = record { simple = columns.route_simple; plain = columns.route_plain; ids_read = refl; all_read = refl }

pub route_suits : IsCodingOf route_table routes (0 ∷ 1 ∷ 2 ∷ [])
route_suits = record { back = columns.route_back; wide = λ x. refl; full = λ x. refl; keys = λ x. refl; sorts = λ x y. refl }

-- ---- meta

abbrev pub meta_ids : List ℕ
meta_ids = codes "SELECT rowid FROM meta ORDER BY rowid"

abbrev pub meta_rows : List ℕ
meta_rows = codes "SELECT schema FROM meta"

pub meta_reads : AreTextsOf meta_table meta_ids meta_rows []
unfolding everything
meta_reads = record { simple = refl; plain = ((refl, refl), tt); ids_read = refl; all_read = refl }

pub meta_suits : IsCodingOf meta_table meta []
meta_suits = record { back = λ n x. refl; wide = λ x. refl; full = λ x. refl; keys = λ x. refl; sorts = λ x y. refl }
