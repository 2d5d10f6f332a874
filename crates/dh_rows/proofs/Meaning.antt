-- What a text means at a schema, from what its parts mean there.
use Rattle.std.proofs.Common.{◌≡◌, ℕ, ◌+◌, List, [], Option, None, Some, Ok, refl, slice_get}
use Rattle.sqlite_schema.specs.declared.schema.Table.{Table}
use Rattle.sqlite_schema.specs.declared.schema.Schema.{Schema}
use Rattle.sqlite_schema.specs.declared.command.Returning.{Returning}
use Rattle.sqlite_schema.specs.declared.command.Command.{Command}
use Rattle.sqlite_schema.specs.declared.command.Command.TheVariants.{Insert, Delete}
use Rattle.sqlite_schema.specs.declared.command.Source.{Source}
use Rattle.sqlite_schema.specs.declared.program.Program.{Program}
use Rattle.sqlite_schema.specs.Names.{table_named}
use Rattle.sqlite_syntax.specs.declared.statement.Parsed.{Parsed}
use Rattle.sqlite_ast.specs.declared.Expr.{Expr}
use Rattle.sqlite_ast.specs.declared.Rows.{Rows}
use Rattle.sqlite_ast.specs.declared.Upsert.{Upsert}
use Rattle.sqlite_ast.specs.declared.Statement.TheVariants as written
use Rattle.sqlite_ast.specs.declared.Conflict.TheVariants as conflict
use Rattle.sqlite_draft.specs.declared.query.Draft.{Draft}
use Rattle.sqlite_resolve.specs.declared.compiled.Compiled.{Compiled}
use Rattle.sqlite_resolve.specs.Compile.{compiled, planned, meaning, command, returning, timed, first, with_command, small, delete, new_rows, insert_or_abort, insert, shows}
use Rattle.sqlite_resolve.specs.Write.{deleted}
use Rattle.sqlite_resolve.specs.Program.{program}
use Rattle.sqlite.specs.Listing.{understood}

pub compiled_as : (schema : Schema) (text : List ℕ) (p : Parsed) (formats : List (List ℕ)) (shown : Option Returning) (c : Command) → first text ≡ Ok p → timed schema p.formats p.statement ≡ formats
    → returning schema (small p.names + small formats) p.statement ≡ Ok shown → command schema p.formats (small p.names + small formats) p.statement ≡ Ok c
    → compiled schema text ≡ Ok (with_command p (formats, (c, shown)))
unfolding compiled planned meaning
compiled_as schema text p formats shown c e t r h = rw (e, t, r, h) refl

pub understood_as : (schema : Schema) (text : List ℕ) (c : Compiled) → compiled schema text ≡ Ok c → understood schema text ≡ Ok c
unfolding understood
understood_as schema text c e = rw e refl

-- any DELETE
module _ (schema : Schema) (p : Parsed) (name : List ℕ) (test : Option Expr) (is : p.statement ≡ written.Delete name test []) (formats : p.formats ≡ []) where
  delete_time : timed schema p.formats p.statement ≡ []
  unfolding timed
  delete_time = rw (is, formats) refl

  delete_shows : (base : ℕ) → returning schema base p.statement ≡ Ok None
  unfolding returning shows
  delete_shows base = rw is refl

  module _ (at : ℕ) (table : Table) (d : Draft) (q : Program) (named : table_named schema name ≡ Some at) (stands : slice_get schema.tables at ≡ Some table) (del : deleted schema at table test ≡ Ok d) (prog : program schema [] d ≡ Ok q) where
    deletes : (base : ℕ) → command schema p.formats base p.statement ≡ Ok (Delete at q)
    unfolding command delete
    deletes base = rw (is, named, stands, del, prog) refl

    pub delete_means : (text : List ℕ) → first text ≡ Ok p → understood schema text ≡ Ok (with_command p ([], (Delete at q, None)))
    delete_means text read = understood_as schema text _ (compiled_as schema text p [] None (Delete at q) read delete_time (delete_shows _) (deletes _))

-- any INSERT of rows
module _ (schema : Schema) (p : Parsed) (name : List ℕ) (columns : List (List ℕ)) (rows : Rows) (formats : p.formats ≡ []) (at : ℕ) (table : Table)
    (named : table_named schema name ≡ Some at) (stands : slice_get schema.tables at ≡ Some table) (plain : table.stamps.formats ≡ []) where
  -- with these clauses of ON CONFLICT, where this is its command
  module _ (clauses : List Upsert) (is : p.statement ≡ written.Insert conflict.Abort name columns rows clauses []) where
    insert_time : timed schema p.formats p.statement ≡ []
    unfolding timed
    insert_time = rw (is, formats, named, stands, plain) refl

    insert_shows : (base : ℕ) → returning schema base p.statement ≡ Ok None
    unfolding returning shows
    insert_shows base = rw is refl

    pub inserted : (text : List ℕ) (c : Command) → first text ≡ Ok p → command schema p.formats (small p.names + small []) p.statement ≡ Ok c → understood schema text ≡ Ok (with_command p ([], (c, None)))
    inserted text c read done = understood_as schema text _ (compiled_as schema text p [] None c read insert_time (insert_shows _) done)

  module _ (is : p.statement ≡ written.Insert conflict.Abort name columns rows [] []) where
    inserts : (base : ℕ) (source : Source) → new_rows schema table base columns rows ≡ Ok source → command schema p.formats base p.statement ≡ Ok (Insert at source)
    unfolding command insert_or_abort insert
    inserts base source h = rw (is, named, stands, h) refl

    pub insert_means : (text : List ℕ) (source : Source) → first text ≡ Ok p → new_rows schema table (small p.names + small []) columns rows ≡ Ok source → understood schema text ≡ Ok (with_command p ([], (Insert at source, None)))
    insert_means text source read h = inserted [] is text (Insert at source) read (inserts _ source h)
