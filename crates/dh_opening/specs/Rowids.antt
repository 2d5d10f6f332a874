-- What is known of rowids that are taken one at a time.
use Rattle.std.specs.Prelude.{◌≡◌, ◌&&◌, ℤ, Bool, false, Option, None, List, ◌++◌}
use Rattle.std.specs.Option.{option_map_or}
use Rattle.sqlite_value.specs.Order.{Row}
use Rattle.dh_rows.specs.Whole.{is_above}
use Rattle.dh_rows.proofs.RowidLemmas.{rise_from}
use Rattle.dh_opening.specs.declared.rowids.Rowids.{Rowids}

-- it is a rowid above the last one, if there was one
abbrev pub is_behind : Option ℤ → Option ℤ → Bool
is_behind last id = option_map_or (is_above last) id false

-- with others behind them, the rows taken are rowids that rise where they do so far and the others do on from the last one
abbrev pub TookRowids : Rowids → List Row → Type 0
TookRowids r rows = (others : List Row) → rise_from None (rows ++ others) ≡ (r.rise && rise_from r.last others)
