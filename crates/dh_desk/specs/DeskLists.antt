-- Lists that a desk tells.
use Rattle.std.specs.Prelude.{◌≡◌, Bool, true, false, Option, Result, Err}
use Rattle.dh_ports.specs.declared.fault.Fault.{Fault}
use Rattle.dh_ports.specs.declared.fault.Fault.TheVariants.{Store}
use Rattle.dh_records.specs.Lists.{Lists, world_of}
use Rattle.dh_view.specs.Remembered.{ShowsClass}
use Rattle.dh_world.specs.declared.caller.Caller.{Caller}
use Rattle.dh_world.specs.Seen.{seen}
use Rattle.dh_world.specs.World.{Text}

-- whether a list was answered with a fault of the store
abbrev pub is_unlisted : Result (Option Text) Fault → Bool
is_unlisted (Err Store) = true
is_unlisted _ = false

-- One caller shows his class as his pass, and sees the same under the host as another.
pub record ShowsClassOf (l : Lists) (host : Option Text) (caller own : Caller) : Type 0 where
  pub shows : ShowsClass l host own
  pub sees : seen (world_of l) host own ≡ seen (world_of l) host caller
