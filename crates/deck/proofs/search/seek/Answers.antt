use Rattle.deck.proofs.Answering.{short-far, seek-short, seek-longer, seek-back, seek-medium, seek-no-medium, seek-long, seek-no-long, seek-noise}
use Rattle.deck.proofs.search.seek.Goals as goal

pub overflow_sub-result : goal.overflow_sub-result
overflow_sub-result c = short-far c.args.matched c.requires c.if-matched-eq1.false

pub returns-in-Short : goal.returns-in-Short
returns-in-Short c = seek-short c.args.matched c.requires c.args.class c.in-Short.is c.if-matched-eq1.true

pub returns-in-Short-2 : goal.returns-in-Short-2
returns-in-Short-2 c = seek-longer c.args.matched c.requires c.args.class c.in-Short.is c.if-matched-eq1.false c.if-matched-eq-LONG_AT.true

pub returns-in-Short-3 : goal.returns-in-Short-3
returns-in-Short-3 c = seek-back c.args.matched c.requires c.args.class c.in-Short.is c.if-matched-eq1.false c.if-matched-eq-LONG_AT.false

pub returns-in-Medium : goal.returns-in-Medium
returns-in-Medium c = seek-medium c.args.matched c.requires c.args.class c.in-Medium.is c.if-matched-eq1-2.true

pub returns-in-Long : goal.returns-in-Long
returns-in-Long c = seek-long c.args.matched c.requires c.args.class c.in-Long.is c.if-matched-eq-LONG_AT-2.true

pub returns-in_default : goal.returns-in_default
returns-in_default c = seek-no-medium c.args.matched c.requires c.args.class c.in-Medium.is c.if-matched-eq1-2.false

pub returns-in_default-2 : goal.returns-in_default-2
returns-in_default-2 c = seek-no-long c.args.matched c.requires c.args.class c.in-Long.is c.if-matched-eq-LONG_AT-2.false

pub returns-in_default-3 : goal.returns-in_default-3
returns-in_default-3 c = seek-noise c.args.matched c.requires c.args.class c.in_default.is
