use Rattle.std.proofs.Common.{◌≡◌, true, rules, sym}
use Rattle.std.specs.Char.{is_ascii_digit}
use Rattle.std.specs.List.{list_all}
use Rattle.dh_texts.proofs.NumberLemmas.{not_read}
use Rattle.dh_texts.proofs.numbers.read_u64.Goals as goal

pub returns-in-Err : goal.returns-in-Err
returns-in-Err c =
    let text = c.args.text.now in
    let digits : list_all is_ascii_digit text ≡ true = search rules in
    sym (not_read 64 text c.in-Err.field-0 c.in-Err.ensures.value.0 digits)
