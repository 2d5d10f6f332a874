use Rattle.std.proofs.Common.{◌∙◌}
use Rattle.dh_view.proofs.ViewLemmas.{still_languages}
use Rattle.dh_view.proofs.view.View.find_langs.Goals as goal

pub note_langs-requires : goal.note_langs-requires
note_langs-requires g c = record {
  read = λ it. still_languages g.S.Store c.in_ok-langs.ensures.asks it c.as_slice.result.now (c.as_slice.ensures.value ∙ c.in_ok-langs.ensures.value it);
}
