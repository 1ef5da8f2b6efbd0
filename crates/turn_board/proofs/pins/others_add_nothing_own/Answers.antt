use Rattle.turn_board.proofs.PinLemmas.{front_of, own_grown}
use Rattle.turn_board.proofs.pins.others_add_nothing_own.Goals as goal

pub returns-clause-front : goal.returns-clause-front
returns-clause-front c = λ ns xs ys h. front_of (λ n. n) ns xs ys h

pub returns-clause-own : goal.returns-clause-own
returns-clause-own c = λ ns xs ys h. own_grown (λ n. n) ns xs ys h
