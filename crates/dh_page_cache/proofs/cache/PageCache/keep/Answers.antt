use Rattle.std.proofs.Common.{inl, inr, ⊎_elim, ◌∙◌}
use Rattle.dh_page_cache.proofs.cache.PageCache.keep.Goals as goal

pub returns-clause-kept : goal.returns-clause-kept
returns-clause-kept c e there = ⊎_elim (λ old. inl old) (λ own. inr (own.0, own.1 ∙ c.with_shared_body-page.ensures)) (c.put_copy.ensures e there)
