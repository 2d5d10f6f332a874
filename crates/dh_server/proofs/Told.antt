-- What was told, one text after another.
use Rattle.std.proofs.Common.{ℕ, Bool, List, ◌++◌, Option}
use Rattle.std.proofs.KnownBytes.{Appends-trans}
use Rattle.dh_server.specs.Telling.{WritesUnlessBroken, TellsSome}

module _ {S : Type 0} (broken : S → Bool) (held : S → Option (List ℕ)) where
  pub tells_both : (a b c : S) (xs ys : List ℕ) → WritesUnlessBroken broken held a b xs → WritesUnlessBroken broken held b c ys → WritesUnlessBroken broken held a c (xs ++ ys)
  tells_both a b c xs ys p q = record {
    live = λ h. p.live (q.live h);
    said = λ h. Appends-trans (held a) (held b) (held c) xs ys (p.said (q.live h)) (q.said h);
  }

  pub some_more : (a b c : S) → TellsSome broken held a b → TellsSome broken held b c → TellsSome broken held a c
  some_more a b c p q = (p.0 ++ q.0, tells_both a b c p.0 q.0 p.1 q.1)
