use Rattle.dh_page_cache.specs.Cached.{AddsNone}
use Rattle.dh_page_cache.proofs.cache.PageCache.make_room.Given as goal

abbrev pub invariant-loop : goal.invariant-loop
invariant-loop l = AddsNone l.fn.self.pages l.self.pages
