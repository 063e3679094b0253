use Rattle.bk_tables.proofs.CountedOnce as places
use Rattle.bk_tables.proofs.RowsCounted as rows
use Rattle.bk_tables.proofs.NamedRows as named
use Rattle.bk_tables.proofs.laws.counts_once.Goals as goal

pub returns-clause-places : goal.returns-clause-places
returns-clause-places c = places.counts_once

pub returns-clause-rows : goal.returns-clause-rows
returns-clause-rows c = rows.rows_count_once

pub returns-clause-named : goal.returns-clause-named
returns-clause-named c = named.rows_named

pub returns-clause-once : goal.returns-clause-once
returns-clause-once c = named.rows_named_once
