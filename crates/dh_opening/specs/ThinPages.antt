-- Pages as an open keeps them: each was judged with its body, which is given back.
use Rattle.std.specs.Prelude.{◌≡◌, false, Some, List, [], ◌∷◌, ◌++◌, codes, map, IsTrue}
use Rattle.std.specs.List.{AllByRecursion}
use Rattle.sqlite_value.specs.Order.{Row}
use Rattle.sqlite.specs.Effect.{Database}
use Rattle.dh_world.specs.WrongTexts.{is_content}
use Rattle.dh_records.specs.Codings.{pages}
use Rattle.dh_records.specs.Lists.{Lists}
use Rattle.dh_records.specs.Typed.{IsPage}
use Rattle.dh_constraints.specs.Lists.{lists_in}
use Rattle.dh_constraints.specs.declared.records.Records.{Records}
use Rattle.dh_records.specs.declared.records.PageRow.{PageRow}
use Rattle.dh_records.specs.declared.records.RetryRow.{RetryRow}
use Rattle.dh_constraints.specs.Keys.{IsFitKey}
use Rattle.dh_opening.specs.declared.thin_pages.ThinPages.{ThinPages}
use Rattle.dh_opening.specs.Judged.{AreFitRows, IsNewest, KeepsFitOne, StandFit}
use Rattle.dh_opening.specs.Opening.{AreKeptIn, AreSpelled}
use Rattle.dh_opening.specs.Rows.{IsNext}

-- the page without its body
abbrev pub thin : PageRow → PageRow
thin x = record x { page = record x.page { body = [] } }

-- the lists without the bodies of their pages, and without answers to retry keys
abbrev pub thinned : Lists → Lists
thinned l = record l { pages = map thin l.pages; used = [] }

-- the page may have its media type and its body
abbrev pub IsFit : PageRow → Type 0
IsFit x = IsTrue (is_content x.page.media x.page.body)

-- the rows keep these pages, each of which may have its content
abbrev pub AreFitPages : List Row → List PageRow → Type 0
AreFitPages = AreFitRows pages IsPage IsFit

-- the rows are of fit pages, which are found without their bodies
pub record HasFound (p : ThinPages) (rows : List Row) : Type 0 where
  pub newest : IsNewest p.last rows
  pub all : List PageRow
  pub fit : AreFitPages rows all
  pub found : p.found.items ≡ map thin all

-- the row keeps this page, which may have its content
abbrev pub KeepsFit : Row → PageRow → Type 0
KeepsFit = KeepsFitOne pages IsPage IsFit

-- The row keeps the next page, which is added without its body.
pub record FindsNext (old new : ThinPages) (row : Row) : Type 0 where
  pub next : IsNext old.last row
  pub page : PageRow
  pub keeps : KeepsFit row page
  pub found : new.found.items ≡ old.found.items ++ thin page ∷ []
  pub last : new.last ≡ Some row

-- What is known of pages once these rows were taken.
pub record TookPages (p : ThinPages) (rows : List Row) : Type 0 where
  pub kept : IsTrue p.are_kept → HasFound p rows
  pub none : p.are_kept ≡ false → (xs : List PageRow) → ¬ AreFitPages rows xs

-- ---- databases

-- the rows of the table of pages stand for these, each of which may have its content
abbrev pub HasPages : Database → List PageRow → Type 0
HasPages = StandFit pages IsPage IsFit (codes "page")

-- these are the pages of the database, without their bodies
abbrev pub HasThin : Database → List PageRow → Type 0
HasThin db xs = (all : List PageRow) × HasPages db all × (xs ≡ map thin all)

-- the lists with these pages, bodies and all, and with these answers to retry keys
abbrev pub made_whole : List PageRow → List RetryRow → Lists → Lists
made_whole all keys l = record l { pages = all; used = keys }

-- The rows of the tables stand for the records, with pages that may have their content and are thinned among these, and with
-- answers to retry keys that keep the constraints.
pub record AreThinIn (db : Database) (records : Records) : Type 0 where
  pub all : List PageRow
  pub keys : List RetryRow
  pub spelled : AreSpelled db (made_whole all keys (lists_in records))
  pub fit : AllByRecursion IsFit all
  pub fit_keys : AllByRecursion (IsFitKey records.projects.items) keys
  pub thin_are : records.pages.items ≡ map thin all

-- The records are kept, with the bodies of their pages and some answers to retry keys.
abbrev pub AreKeptWhole : Database → Records → Type 0
AreKeptWhole db records = (all : List PageRow) × (keys : List RetryRow) × AreKeptIn db (made_whole all keys (lists_in records))
