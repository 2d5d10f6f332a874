-- What several reads take, one after another.
use Rattle.std.proofs.Common.{ℕ, ◌+◌, ◌≤◌, min, Bool, List, [], ◌++◌, length, length-append, Option, Some, None, append_assoc, arith, ap, sym, ◌∙◌}
use Rattle.std.specs.Io.KnownBytes.{Consumes}
use Rattle.dh_ports.specs.Ports.{CountsUpTo, CountsAtLeast}
use Rattle.dh_ports.specs.Reading.{TookAtMost, AddsSome}

-- counts of calls add up
pub counts_on : (a b c : Option ℕ) (n m k : ℕ) → CountsUpTo a b n → CountsUpTo b c m → n + m ≤ k → CountsUpTo a c k
counts_on None b c n m k p q le = tt
counts_on (Some x) None c n m k p q le = absurd p
counts_on (Some x) (Some y) None n m k p q le = absurd q
counts_on (Some x) (Some y) (Some z) n m k p q le = omega (arith, p, q)

capped : (cap x y z n m k : ℕ) → min (x + n) cap ≤ y → min (y + m) cap ≤ z → k ≤ n + m → min (x + k) cap ≤ z
capped cap x y z n m k p q le = omega arith

-- from below too
pub counts_from : (a b c : Option ℕ) (n m k : ℕ) → CountsAtLeast a b n → CountsAtLeast b c m → k ≤ n + m → CountsAtLeast a c k
counts_from None b c n m k p q le = tt
counts_from (Some x) None c n m k p q le = absurd p
counts_from (Some x) (Some y) None n m k p q le = absurd q
counts_from (Some x) (Some y) (Some z) n m k p q le = capped _ x y z n m k p q le

-- what was taken grows by what a read adds
pub takes_more : (old mid new : Option (List ℕ)) (before after : List ℕ) (came : Bool) → Consumes old mid before → AddsSome mid new before after came → Consumes old new after
takes_more None mid new before after came p q = tt
takes_more (Some x) None new before after came p q = absurd p
takes_more (Some x) (Some y) None before after came p q = absurd q.1
takes_more (Some x) (Some y) (Some z) before after came p q =
    p ∙ ap (λ w. before ++ w) q.1 ∙ sym (append_assoc before q.0 z) ∙ ap (λ w. w ++ z) (sym q.2)

-- so many bytes, and then a few more
pub took_on : (old mid new : Option (List ℕ)) (before : List ℕ) (most : ℕ) → Consumes old mid before → TookAtMost mid new most → TookAtMost old new (length before + most)
took_on None mid new before most p q = ([], tt, omega arith)
took_on (Some x) None new before most p q = absurd p
took_on (Some x) (Some y) None before most p q = absurd q.1
took_on (Some x) (Some y) (Some z) before most p q =
    (before ++ q.0, p ∙ ap (λ w. before ++ w) q.1 ∙ sym (append_assoc before q.0 z), omega (arith, length-append before q.0, q.2))

-- a read adds little
pub adds_little : (old new : Option (List ℕ)) (before after : List ℕ) (came : Bool) → AddsSome old new before after came → length after ≤ length before + 4096
adds_little old new before after came q = omega (arith, ap length q.2 ∙ length-append before q.0, q.4)
