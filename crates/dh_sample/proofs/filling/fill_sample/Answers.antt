use Rattle.std.proofs.Common.{◌∷◌, [], Ok, refl}
use Rattle.dh_http.proofs.Moving.{WorldGoesBy-weaker, WorldGoesBy-trans}
use Rattle.dh_sample.specs.SampleWorld.{make_sample, push_sample, upload_sample}
use Rattle.dh_sample.proofs.FillLemmas.{does_next, does_refused}
use Rattle.dh_sample.proofs.filling.fill_sample.Goals as goal

pub returns-in_err-make_project : goal.returns-in_err-make_project
returns-in_err-make_project g c = record {
  fills =
      WorldGoesBy-weaker c.in_err-make_project.ensures.step
      (λ u v step. does_refused make_sample (push_sample ∷ upload_sample ∷ []) u v c.in_err-make_project.field-0.0 c.from_residual.result step c.from_residual.ensures.1);
}

pub returns-in_err-push_branch : goal.returns-in_err-push_branch
returns-in_err-push_branch g c = record {
  fills =
      WorldGoesBy-trans c.in_ok-make_project.ensures.step
      (WorldGoesBy-weaker c.in_err-push_branch.ensures.step
      (λ u v step. does_refused push_sample (upload_sample ∷ []) u v c.in_err-push_branch.field-0.0 c.from_residual-in_err-push_branch.result step c.from_residual-in_err-push_branch.ensures.1))
      (λ u v w. does_next make_sample (push_sample ∷ upload_sample ∷ []) u v w _ _);
}

pub returns-in_err-store_pages : goal.returns-in_err-store_pages
returns-in_err-store_pages g c = record {
  fills =
      WorldGoesBy-trans c.in_ok-make_project.ensures.step
      (WorldGoesBy-trans c.in_ok-push_branch.ensures.step
      (WorldGoesBy-weaker c.in_err-store_pages.ensures.step
      (λ u v step. does_refused upload_sample [] u v c.in_err-store_pages.field-0.0 c.from_residual-in_err-store_pages.result step c.from_residual-in_err-store_pages.ensures.1))
      (λ u v w. does_next push_sample (upload_sample ∷ []) u v w _ _))
      (λ u v w. does_next make_sample (push_sample ∷ upload_sample ∷ []) u v w _ _);
}

pub returns : goal.returns
returns g c = record {
  fills =
      WorldGoesBy-trans c.in_ok-make_project.ensures.step
      (WorldGoesBy-trans c.in_ok-push_branch.ensures.step
      (WorldGoesBy-weaker c.in_ok-store_pages.ensures.step
      (λ u v step. does_next upload_sample [] u v v _ (Ok tt) step refl))
      (λ u v w. does_next push_sample (upload_sample ∷ []) u v w _ (Ok tt)))
      (λ u v w. does_next make_sample (push_sample ∷ upload_sample ∷ []) u v w _ (Ok tt));
}
