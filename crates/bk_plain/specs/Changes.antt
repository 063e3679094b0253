-- What a change of one account means in the rule.
use Rattle.bk_rules.specs.Rule.{Change as RuleChange, send, receive}
use Rattle.bk_plain.specs.declared.change.Change.{Change}
use Rattle.bk_plain.specs.declared.change.Change.TheVariants.{Send, Receive}

-- the rule's change: the sender's payment, or what a receiver gets
abbrev pub meant : Change → RuleChange
meant (Send id paid) = send id paid
meant (Receive payment) = receive payment
