use Rattle.std.proofs.Common.{refl}
use Rattle.sqlite.proofs.Callers.{memory_is_clean}
use Rattle.dh_http.proofs.Moving.{goes_at}
use Rattle.dh_sample.proofs.FillLemmas.{filled}
use Rattle.dh_sample.proofs.filling.sample_desk.Goals as goal

pub returns : goal.returns
returns c = filled _ _ c.in_ok-desk.ensures (goes_at c.in_ok-fill_sample.ensures.fills (memory_is_clean c.fill_sample.new.desk.tables, refl))
