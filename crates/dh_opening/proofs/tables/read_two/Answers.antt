use Rattle.dh_opening.proofs.Looks.{laid_on, some_laid}
use Rattle.dh_opening.proofs.tables.read_two.Goals as goal

pub read_table-requires : goal.read_table-requires
read_table-requires g c = record { laid = λ honest. some_laid (λ P all. (all.0, tt)) (c.requires.laid honest) }

pub read_table-requires-2 : goal.read_table-requires-2
read_table-requires-2 g c = record { laid = λ honest. some_laid (λ P all. (all.1.0, tt)) (laid_on c.in_ok-first.first c.in_ok-first.ensures.opens c.requires.laid honest) }
