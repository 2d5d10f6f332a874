-- What the world and the constraints say of the records is said of those that no others are derived from.
use Rattle.std.proofs.Common.{◌≡◌, refl}
use Rattle.dh_records.specs.Lists.{Lists, base_of, world_of, project_of}
use Rattle.dh_records.specs.Constraints.{AreInOrder, KeepsConstraints}

pub base_world : (lists : Lists) → world_of (base_of lists) ≡ world_of lists
unfolding world_of project_of
base_world lists = refl

pub base_constraints : (lists : Lists) → KeepsConstraints lists → KeepsConstraints (base_of lists)
base_constraints lists constraints = assumption (constraints.hosts)

pub constraints_of_base : (lists : Lists) → KeepsConstraints (base_of lists) → KeepsConstraints lists
constraints_of_base lists constraints = assumption (constraints.hosts)

pub order_of_base : (lists : Lists) → AreInOrder (base_of lists) → AreInOrder lists
order_of_base lists up = assumption (up.projects)
