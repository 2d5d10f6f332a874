use Rattle.dh_tables.proofs.tables.Tables.drop_pages.Goals as goal

pub returns-in-Some : goal.returns-in-Some
returns-in-Some g c = record { writes = rw c.in-Some.is c.drop_pages_in.ensures.writes }

pub returns-in-None : goal.returns-in-None
returns-in-None g c = record { writes = rw c.in-None.is c.drop_pages_of.ensures.writes }
