-- Records that differ in stored rows alone.
use Rattle.std.proofs.Common.{◌≡◌, sym, ap, subst, ◌∙◌}
use Rattle.dh_records.specs.Constraints.{AreInOrder, AreSound, KeepsConstraints}
use Rattle.dh_records.specs.Lists.{Lists, base_of, world_of}
use Rattle.dh_records.proofs.BaseLemmas.{base_world, base_constraints, constraints_of_base, order_of_base}

-- they spell one world, and are sound together
pub same_world : (next l : Lists) → base_of next ≡ base_of l → world_of next ≡ world_of l
same_world next l base = sym (base_world next) ∙ ap world_of base ∙ base_world l

base_order : (l : Lists) → AreInOrder l → AreInOrder (base_of l)
base_order l up = assumption (up.projects)

pub same_sound : (next l : Lists) → base_of next ≡ base_of l → AreSound l → AreSound next
same_sound next l base sound =
    record {
      order = order_of_base next (subst AreInOrder (sym base) (base_order l sound.order));
      constraints = constraints_of_base next (subst KeepsConstraints (sym base) (base_constraints l sound.constraints));
    }
