use Rattle.std.proofs.Common.{◌≡◌, ◌≤◌, ◌+◌, ◌⊎◌, Contains, subst, sym}
use Rattle.dh_page_cache.specs.Cached.{pairs_in, room_in, room_of}
use Rattle.dh_page_cache.specs.Keys.{texts_of}
use Rattle.dh_page_cache.proofs.CachedLemmas.{after_put, room, room_after_put}
use Rattle.dh_page_cache.proofs.cache.put.Goals as goal

pub returns-in-Some-clause-kept : goal.returns-in-Some-clause-kept
returns-in-Some-clause-kept c e there =
    subst (λ o. Contains (pairs_in o) e ⊎ ((texts_of e.0 ≡ texts_of c.args.key) × (e.1 ≡ c.args.page))) (sym c.in-Some.is)
    (after_put c.in-Some.cache c.args.key c.args.page c.put.new.self c.put.result c.put.ensures.entries c.put.ensures.err e there)

pub returns-in-Some-clause-room : goal.returns-in-Some-clause-room
returns-in-Some-clause-room c =
    subst (λ o. room c.put.new.self.entries ≤ room_of c.args.page + room_in o) (sym c.in-Some.is)
    (room_after_put c.in-Some.cache c.args.key c.args.page c.put.new.self c.put.result c.put.ensures.entries c.put.ensures.err)
