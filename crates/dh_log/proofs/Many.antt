-- Entries that are told one after another.
use Rattle.std.proofs.Common.{◌≡◌, ◌∙◌, ℕ, ◌+◌, false, List, [], ◌∷◌, ◌++◌, length, Option, length-append, ap, arith, refl, subst, sym}
use Rattle.std.specs.List.{FoldsTo}
use Rattle.dh_log.specs.Logs.{TellsEntry, TellsMany}
use Rattle.dh_log.specs.declared.entry.Entry.{Entry}
use Rattle.dh_log.specs.declared.log.Log.{Log}

module _ {W : Type 0} (contents : W → Option (List ℕ)) where
  pub tells_none : (a : Log W) → TellsMany contents a a 0
  tells_none a = ([], refl, refl)

  pub tells_one : (a b : Log W) (entry : Entry) → TellsEntry contents a entry b → TellsMany contents a b 1
  tells_one a b entry told = (entry ∷ [], (b, told, refl), refl)

  folds_both : (a b c : Log W) (xs ys : List Entry) → FoldsTo (TellsEntry contents) a xs b → FoldsTo (TellsEntry contents) b ys c → FoldsTo (TellsEntry contents) a (xs ++ ys) c
  folds_both a b c [] ys same next = subst (λ s. FoldsTo (TellsEntry contents) s ys c) (sym same) next
  folds_both a b c (x ∷ xs) ys (between, one, more) next = (between, one, folds_both between b c xs ys more next)

  -- so many, and then so many
  pub tells_both : (a b c : Log W) (n m : ℕ) → TellsMany contents a b n → TellsMany contents b c m → TellsMany contents a c (n + m)
  tells_both a b c n m (xs, first, length_is) (ys, next, more) =
      (xs ++ ys, folds_both a b c xs ys first next, (let both = length-append xs ys in omega (arith, both, length_is, more)))

  -- a log that is off stays as it is
  folds_off : (a b : Log W) (xs : List Entry) → a.is_on ≡ false → FoldsTo (TellsEntry contents) a xs b → b ≡ a
  folds_off a b [] off same = sym same
  folds_off a b (x ∷ xs) off (between, one, more) =
      let same : between ≡ a = one.off off in
      folds_off between b xs (ap (λ (log : Log W). log.is_on) same ∙ off) more ∙ same

  pub tells_off : (a b : Log W) (n : ℕ) → TellsMany contents a b n → a.is_on ≡ false → b ≡ a
  tells_off a b n (xs, told, length_is) off = folds_off a b xs off told
