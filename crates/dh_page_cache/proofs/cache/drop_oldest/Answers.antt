use Rattle.std.proofs.Common.{Contains, ◌≤◌, ◌+◌, ◌-◌, length, arith, ap, subst, sym, ◌∙◌}
use Rattle.lru.proofs.CallerLemmas.{Contains-take}
use Rattle.dh_page_cache.specs.Cached.{pairs_in, room_in}
use Rattle.dh_page_cache.proofs.CachedLemmas.{room, room_before, room_taken}
use Rattle.dh_page_cache.proofs.cache.drop_oldest.Goals as goal

pub returns-in-Some-pop_lru-clause-none : goal.returns-in-Some-pop_lru-clause-none
returns-in-Some-pop_lru-clause-none c e there =
    subst (λ o. Contains (pairs_in o) e) (sym c.in-Some.is) (Contains-take (length c.in-Some.cache.entries - 1) c.in-Some.cache.entries e (subst (λ cache. Contains cache.entries e) c.pop_lru.ensures.entries there))

pub returns-in-Some-clause-none : goal.returns-in-Some-clause-none
returns-in-Some-clause-none c e there =
    subst (λ o. Contains (pairs_in o) e) (sym c.in-Some.is) (Contains-take (length c.in-Some.cache.entries - 1) c.in-Some.cache.entries e (subst (λ cache. Contains cache.entries e) c.pop_lru.ensures.entries there))

pub returns-in-Some-pop_lru-clause-room : goal.returns-in-Some-pop_lru-clause-room
returns-in-Some-pop_lru-clause-room c =
    let es = c.in-Some.cache.entries in
    let less = room_before es (length es - 1) (c.in-Some-pop_lru.field-0-0, c.in-Some-pop_lru.page) (sym c.in-Some-pop_lru.ensures.value) in
    let now = ap (λ cache. room cache.entries) c.in-Some-pop_lru.ensures.entries in
    let was = ap room_in c.in-Some.is in
    let body = ap length c.as_slice.ensures in
    omega (arith, less, now, was, body)

pub returns-in-Some-clause-room : goal.returns-in-Some-clause-room
returns-in-Some-clause-room c =
    let less = room_taken (length c.in-Some.cache.entries - 1) c.in-Some.cache.entries in
    let now = ap (λ cache. room cache.entries) c.pop_lru.ensures.entries in
    let was = ap room_in c.in-Some.is in
    omega (arith, less, now, was)
