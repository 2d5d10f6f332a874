-- That lists are in the order of their keys has one proof at most, so it can be a fact of a type.
use Rattle.std.specs.Prelude.{List}
use Rattle.std.specs.declared.cmp.Ordering.TheVariants.{Less}
use Rattle.sqlite_value.specs.Order.{Row}
use Rattle.sqlite_trees.specs.Props.{IsAscending-prop, Ordering-set}
use Rattle.dh_records.specs.Codings as coding
use Rattle.dh_records.specs.Lists.{Lists}
use Rattle.dh_records.specs.Constraints.{AreInOrder, InOrder}

pub InOrder-prop : {X : Type 0} (key : X → Row) (xs : List X) → IsProp (InOrder key xs)
InOrder-prop key = IsAscending-prop _ (λ x y. Ordering-set _ Less)

pub AreInOrder-prop : (lists : Lists) → IsProp (AreInOrder lists)
AreInOrder-prop lists p q = λ i. record {
  projects = InOrder-prop coding.projects.key lists.projects p.projects q.projects i;
  langs = InOrder-prop coding.langs.key lists.langs p.langs q.langs i;
  versions = InOrder-prop coding.versions.key lists.versions p.versions q.versions i;
  pages = InOrder-prop coding.pages.key lists.pages p.pages q.pages i;
  used = InOrder-prop coding.used.key lists.used p.used q.used i;
  picks = InOrder-prop coding.picks.key lists.picks p.picks q.picks i;
  passes = InOrder-prop coding.passes.key lists.passes p.passes q.passes i;
  held = InOrder-prop coding.held.key lists.held p.held q.held i;
  rules = InOrder-prop coding.rules.key lists.rules p.rules q.rules i;
  redirects = InOrder-prop coding.redirects.key lists.redirects p.redirects q.redirects i;
}
