use Rattle.std.proofs.Common.{rules, sym, subst, ◌∙◌}
use Rattle.dh_page_cache.specs.Cached.{IsCached}
use Rattle.dh_page_cache.specs.Keys.{texts_of}
use Rattle.dh_page_cache.proofs.CachedLemmas.{found_there}
use Rattle.dh_page_cache.proofs.cache.copy_at.Goals as goal

pub returns-in-Ok : goal.returns-in-Ok
returns-in-Ok c =
    subst (λ page. IsCached c.args.pages.now (texts_of c.args.key.now) page) (sym c.in-Ok.ensures)
    (subst (λ o. IsCached o (texts_of c.args.key.now) c.in-Some-peek.found.now) (sym c.in-Some.is) (found_there c.in-Some.cache c.args.key.now c.in-Some-peek.found.now (search rules)))
