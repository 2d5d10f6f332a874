use Rattle.std.proofs.Common.{inl, inr, ⊎_elim, ◌∙◌}
use Rattle.dh_page_cache.proofs.cache.PageCache.put_copy.Goals as goal

pub returns-in-Ok : goal.returns-in-Ok
returns-in-Ok c e there = ⊎_elim (λ old. inl (c.make_room.ensures e (c.make_list.ensures.none e old))) (λ own. inr (own.0, own.1 ∙ c.in-Ok.ensures)) (c.put.ensures.kept e there)
