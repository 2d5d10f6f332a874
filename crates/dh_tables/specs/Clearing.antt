-- The lists with no derived records of a kind.
use Rattle.std.specs.Prelude.{[]}
use Rattle.dh_records.specs.Lists.{Lists}

abbrev pub without_aliases : Lists → Lists
without_aliases l = record l { aliases = [] }

abbrev pub without_routes : Lists → Lists
without_routes l = record l { routes = [] }
