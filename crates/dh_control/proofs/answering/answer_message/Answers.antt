use Rattle.dh_desk.proofs.Moving.{WorldGoesBy-weaker}
use Rattle.dh_control.proofs.Whole.{end_told, reader_told}
use Rattle.dh_control.proofs.answering.answer_message.Goals as goal

pub returns-clause-answers : goal.returns-clause-answers
returns-clause-answers g c =
    WorldGoesBy-weaker c.take_message-ended.ensures.takes
    (end_told (g.W.Sink.held c.take_message-ended.new.sink) (g.W.Sink.held c.tell_end.new.sink) c.take_message-ended.result c.tell_end.result c.tell_end.ensures.tells
    c.args.now c.args.file.now (g.R.Source.left c.args.source.now) (g.W.Sink.held c.args.sink.now))

pub returns-clause-read_fault : goal.returns-clause-read_fault
returns-clause-read_fault g c =
    λ broken. reader_told (g.W.Sink.held c.take_message-ended.new.sink) (g.W.Sink.held c.tell_end.new.sink) c.take_message-ended.result c.tell_end.result c.tell_end.ensures.tells
    (c.take_message-ended.ensures.read_fault broken)

pub returns-clause-ended : goal.returns-clause-ended
returns-clause-ended g c = (g.W.Sink.held c.take_message-ended.new.sink, c.take_message-ended.result, c.tell_end.ensures.tells)
