use Rattle.dh_control.proofs.Sending.{import_done, line_done, other_left, words_done}
use Rattle.dh_control.proofs.laws.messages_are_done.Goals as goal

pub returns : goal.returns
returns c = record {
  words = λ moment file word words before after held now result. words_done moment before after held now result file word words;
  lines = λ moment file line before after held now result. line_done moment before after held now result file line;
  imports = λ moment file host list before after held now result. import_done moment before after held now result file host list;
  others = λ moment file other rest before after held now result. other_left moment before after held now result file other rest;
}
