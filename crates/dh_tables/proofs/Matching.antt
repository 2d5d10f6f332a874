-- What the WHERE of our statements tests.
use Rattle.std.proofs.Common.{◌≡◌, ℕ, pos, nat_lt, arith, List, Bool, true, false, Some, refl, ◌∙◌, is_eq, is_gt, int_cmp, ◌==◌}
use Rattle.std.proofs.lemmas.Map.Text.{is_eq-slice_cmp}
use Rattle.std.proofs.lemmas.Bool.Decides.{nat_tests}
use Rattle.std.specs.Str.{bytes_eq}
use Rattle.sqlite_value.specs.declared.keys.Collation.TheVariants.{Binary}
use Rattle.sqlite_value.specs.declared.value.Value.TheVariants.{Int, Text}
use Rattle.sqlite_value.specs.Order.{value_cmp}
use Rattle.sqlite_value.proofs.OrderLemmas.{value_cmp-Int, value_cmp-Text}
use Rattle.sqlite_sql.specs.declared.ops.BinaryOp.TheVariants.{Compare}
use Rattle.sqlite_sql.specs.declared.ops.CompareOp.TheVariants.{Eq, Gt}
use Rattle.sqlite_sql.specs.Ops.{binary, is_true, from_truth}
use Rattle.dh_rows.specs.Keyed.{flag}
use Rattle.dh_world.specs.World.{is_upload}
use Rattle.dh_records.specs.Codings.{alias_number}
use Rattle.dh_records.specs.Lists.{same_alias, same_op}
use Rattle.dh_records.specs.declared.records.AliasName.{AliasName}
use Rattle.dh_records.specs.declared.records.AliasName.TheVariants.{Latest, Stable, Default}
use Rattle.dh_world.specs.declared.operation.Operation.{Operation}
use Rattle.dh_world.specs.declared.operation.Operation.TheVariants.{Push, Upload}

truth : (b : Bool) → is_true (from_truth (Some b)) ≡ b
truth true = refl
truth false = refl

pub equal_text : (a b : List ℕ) → is_true (binary (Compare Eq Binary) (Text a) (Text b)) ≡ bytes_eq a b
unfolding binary
equal_text a b = rw (value_cmp-Text a b) (truth _ ∙ is_eq-slice_cmp a b)

later_place : (a b : ℕ) → is_gt (int_cmp (pos a) (pos b)) ≡ nat_lt b a
later_place a b = grind (arith, nat_tests)

pub above_place : (a b : ℕ) → is_true (binary (Compare Gt Binary) (Int (pos a)) (Int (pos b))) ≡ nat_lt b a
unfolding binary
above_place a b = rw (value_cmp-Int (pos a) (pos b)) (truth _ ∙ later_place a b)

same_place : (a b : ℕ) → is_eq (int_cmp (pos a) (pos b)) ≡ (a == b)
same_place a b = grind (arith, nat_tests)

pub equal_place : (a b : ℕ) → is_true (binary (Compare Eq Binary) (Int (pos a)) (Int (pos b))) ≡ (a == b)
unfolding binary
equal_place a b = rw (value_cmp-Int (pos a) (pos b)) (truth _ ∙ same_place a b)

pub equal_op : (a b : Operation) → is_true (binary (Compare Eq Binary) (flag (is_upload a)) (flag (is_upload b))) ≡ same_op a b
unfolding binary value_cmp lib.Ieee.is_nan lib.Ieee.lt
equal_op Push Push = refl
equal_op Push Upload = refl
equal_op Upload Push = refl
equal_op Upload Upload = refl

pub equal_alias : (a b : AliasName) → is_true (binary (Compare Eq Binary) (Int (pos (alias_number a))) (Int (pos (alias_number b)))) ≡ same_alias a b
unfolding binary value_cmp lib.Ieee.is_nan lib.Ieee.lt
equal_alias Latest Latest = refl
equal_alias Latest Stable = refl
equal_alias Latest Default = refl
equal_alias Stable Latest = refl
equal_alias Stable Stable = refl
equal_alias Stable Default = refl
equal_alias Default Latest = refl
equal_alias Default Stable = refl
equal_alias Default Default = refl
