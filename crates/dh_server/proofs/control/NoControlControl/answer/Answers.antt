use Rattle.std.proofs.Common.{[], refl}
use Rattle.dh_http.proofs.Moving.{WorldGoesBy-refl}
use Rattle.dh_server.proofs.control.NoControlControl.answer.Goals as goal

pub returns : goal.returns
returns g c = record {
  moves = WorldGoesBy-refl (λ w. ([], [], (refl, refl), (refl, refl, refl)));
  counts = (tt, tt);
  noted = (refl, refl);
}
