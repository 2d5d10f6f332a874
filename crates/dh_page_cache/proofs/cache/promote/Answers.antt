use Rattle.std.proofs.Common.{Contains, ◌≤◌, ap, subst, sym}
use Rattle.dh_page_cache.specs.Cached.{pairs_in, room_in}
use Rattle.dh_page_cache.proofs.CachedLemmas.{promoted_there, room, room_promoted}
use Rattle.dh_page_cache.proofs.KeyLemmas.{key_eq}
use Rattle.dh_page_cache.proofs.cache.promote.Goals as goal

pub returns-in-Some-clause-none : goal.returns-in-Some-clause-none
returns-in-Some-clause-none c e there =
    subst (λ o. Contains (pairs_in o) e) (sym c.in-Some.is) (promoted_there c.in-Some.cache c.args.key.now e (subst (λ cache. Contains cache.entries e) c.promote.ensures.entries there))

pub returns-in-Some-clause-room : goal.returns-in-Some-clause-room
returns-in-Some-clause-room c =
    subst (λ o. room c.promote.new.self.entries ≤ room_in o) (sym c.in-Some.is) (subst (λ cache. room cache.entries ≤ room c.in-Some.cache.entries) (sym c.promote.ensures.entries) (room_promoted (key_eq c.args.key.now) c.in-Some.cache.entries))
