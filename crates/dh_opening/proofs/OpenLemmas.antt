-- What is said of a refusal that is a certain one.
use Rattle.std.proofs.Common.{◌≡◌, Err, subst}
use Rattle.dh_ports.specs.declared.fault.Fault.TheVariants as fault
use Rattle.dh_opening.specs.declared.fault.TablesFault.{TablesFault}
use Rattle.dh_opening.specs.declared.fault.TablesFault.TheVariants.{NotOurs, OldSchema, Failed}
use Rattle.dh_opening.specs.Opening.{OnFailed, OnNotOurs, OnOldSchema}

pub on_not_ours : (T P : Type 0) (fault : TablesFault) → OnNotOurs {T = T} (Err fault) P → fault ≡ NotOurs → P
on_not_ours T P fault it is = subst (λ (e : TablesFault). OnNotOurs {T = T} (Err e) P) is it

pub on_old_schema : (T P : Type 0) (fault : TablesFault) → OnOldSchema {T = T} (Err fault) P → fault ≡ OldSchema → P
on_old_schema T P fault it is = subst (λ (e : TablesFault). OnOldSchema {T = T} (Err e) P) is it

pub on_store_failed : (T P : Type 0) (told : TablesFault) → OnFailed {T = T} (Err told) P → told ≡ Failed fault.Store → P
on_store_failed T P told it is = subst (λ (e : TablesFault). OnFailed {T = T} (Err e) P) is it
