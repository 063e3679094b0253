use Rattle.bk_follow.proofs.Openings.{opening_is}
use Rattle.bk_follow.proofs.opening.book_of.Goals as goal

pub new-requires : goal.new-requires
new-requires c = record { accounts = c.in_ok-rows.ensures.accounts }

pub returns : goal.returns
returns c = λ second same. opening_is c.args.committee c.args.payload.now c.in_ok-rows.rows.items c.in_ok-book.book second same c.in_ok-rows.ensures.rows c.in_ok-book.ensures.book c.in_ok-book.ensures.none
