-- Each read of a head was needed: what came before it holds no end of a head.
use Rattle.std.proofs.Common.{◌≡◌, ◌≢◌, ℕ, min, List, [], length, take, Option, refl, arith, ap, sym, ◌∙◌}
use Rattle.std.proofs.lemmas.List.{take_all}
use Rattle.dh_requests.specs.HeadEnd.{OpenHead}
use Rattle.dh_requests.specs.Takes.{TookWhile}
use Rattle.dh_requests.specs.declared.head_end.Scan.{Scan}
use Rattle.dh_requests.specs.Scan.{end_from, at_first, ScansTo}
use Rattle.dh_requests.proofs.Lines.{end_from-first}
use Rattle.dh_requests.proofs.Ends.{no_end}
use Rattle.dh_requests.proofs.Takes.{consumes_none}

-- bytes that were searched without an end
pub open_head : (buf : List ℕ) (seen : ℕ) (scan : Scan) → seen ≡ min (length buf) 16384 → seen ≢ 16384 → ScansTo at_first (take seen buf) seen scan → OpenHead buf
open_head buf seen scan e f h = record {
  open_head = sym (end_from-first buf) ∙ ap (end_from at_first) (sym (take_all seen buf (omega arith))) ∙ no_end at_first scan (take seen buf) seen h;
  room = omega arith;
}

-- before any read
pub none_yet : (left : Option (List ℕ)) (most : ℕ) → TookWhile OpenHead left left most
none_yet left most = ([], [], record { open_head = refl; room = omega arith }, consumes_none left, omega arith)
