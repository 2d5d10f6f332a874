use Rattle.std.proofs.Common.{◌≡◌, ◌∙◌, Some, ap, refl, rules, sym}
use Rattle.dh_texts.specs.Targets.{target_of}
use Rattle.dh_desk.proofs.Moving.{WorldGoesBy-refl}
use Rattle.dh_script.proofs.orders.do_get.Goals as goal

pub returns-in-Ok-clause-gets : goal.returns-in-Ok-clause-gets
returns-in-Ok-clause-gets g c =
    let is : target_of c.args.target.now ≡ Some c.in-Ok.target = ap target_of (sym (c.as_bytes.ensures.value ∙ c.as_str.ensures)) ∙ c.in-Ok.ensures.target in
    rw is c.do_read.ensures.gets

pub returns-in-Ok-clause-why : goal.returns-in-Ok-clause-why
returns-in-Ok-clause-why g c =
    let is : target_of c.args.target.now ≡ Some c.in-Ok.target = ap target_of (sym (c.as_bytes.ensures.value ∙ c.as_str.ensures)) ∙ c.in-Ok.ensures.target in
    rw is c.do_read.ensures.why

pub returns-in-Err-Memory-clause-gets : goal.returns-in-Err-Memory-clause-gets
returns-in-Err-Memory-clause-gets g c = WorldGoesBy-refl (λ w. (refl, tt))

pub returns-in-Err-Memory-clause-why : goal.returns-in-Err-Memory-clause-why
returns-in-Err-Memory-clause-why g c = WorldGoesBy-refl (λ w. (refl, tt))

pub returns-in-Err : goal.returns-in-Err
returns-in-Err g c = record {
  gets = WorldGoesBy-refl (λ w. (refl, search rules));
  why = WorldGoesBy-refl (λ w. (refl, search rules));
  explains = search rules;
  told = search rules;
}
