-- Looks one after the other, and the rows that they add.
use Rattle.std.proofs.Common.{◌≡◌, ◌<◌, ◌+◌, ℕ, List, ◌∷◌, [], ◌++◌, Result, Ok, Err, OnOk, refl, sym, ap, ◌∙◌, arith, length, take, get_or}
use Rattle.std.specs.List.{flat_map}
use Rattle.std.proofs.lemmas.List.{flat_map_more, take_more}
use Rattle.dh_ports.specs.declared.fault.Fault.{Fault}
use Rattle.dh_ports.specs.declared.fault.Fault.TheVariants.{Store, Memory}
use Rattle.dh_ports.specs.Faults.{OnStore}
use Rattle.dh_reply.specs.Lookup.{IsLook, Meaning}
use Rattle.dh_world.specs.World.{Text}

on_ok : {T E P Q : Type 0} (r : Result T E) → (P → Q) → OnOk r P → OnOk r Q
on_ok (Ok x) f h = f h
on_ok (Err e) f h = tt

on_store : {T P Q : Type 0} (r : Result T Fault) → (P → Q) → OnStore r P → OnStore r Q
on_store (Ok x) f h = tt
on_store (Err Memory) f h = tt
on_store (Err Store) f h = f h

module _ {L : Type 0} (m : Meaning L) where
  -- none
  pub none_looked : {T : Type 0} → ((a : L) → m.leads a a) → ((a : L) → m.keeps a a) → (a : L) (x : T) → IsLook m a a (Ok x)
  none_looked leads keeps a x = record { leads = leads a; doubt = omega arith; told = tt; keeps = keeps a; kept = λ _. refl }

  -- looks after others that were answered
  pub looked_on
      : {T U : Type 0} {a b c : L} {x : T} {r : Result U Fault}
      → ((a b c : L) → m.leads a b → m.leads b c → m.leads a c) → ((a b c : L) → m.keeps a b → m.keeps b c → m.keeps a c) → ((a b c : L) → m.leads a b → m.fails b c → m.fails a c)
      → IsLook m a b (Ok x) → IsLook m b c r → IsLook m a c r
  looked_on {a = a} {b = b} {c = c} {r = r} leads keeps fails p q = record {
    leads = leads a b c p.leads q.leads;
    doubt = let first = p.doubt in let next = q.doubt in omega arith;
    told = on_store r (fails a b c p.leads) q.told;
    keeps = on_ok r (keeps a b c p.keeps) q.keeps;
    kept = λ d. let next = q.doubt in let was : m.doubt b ≡ 0 = omega (arith, d) in on_ok r (λ same. same ∙ p.kept was) (q.kept d);
  }

-- ---- rows that are added, one item of a list after the other

pub rows_on
    : {X : Type 0} (f : X → List Text) (start rows new : List Text) (xs : List X) (i : ℕ) (x : X) → i < length xs → x ≡ get_or xs i x
    → rows ≡ start ++ flat_map f (take i xs) → new ≡ rows ++ f x → new ≡ start ++ flat_map f (take (i + 1) xs)
rows_on f start rows new xs i x low is before added =
    added ∙ ap (λ l. l ++ f x) before ∙ flat_map_more f start (take i xs) x
    ∙ ap (λ l. start ++ flat_map f l) (sym (take_more xs i x low ∙ ap (λ y. take i xs ++ y ∷ []) (sym is)))
