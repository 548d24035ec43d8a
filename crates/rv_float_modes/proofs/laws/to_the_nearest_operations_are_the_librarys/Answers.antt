-- To the nearest, ties to even, each operation is the library's, by its own lemma of `Agreeing.antt`.
use Rattle.rv_float_modes.proofs.Agreeing.{add_agrees, div_agrees, mul_agrees, multiply_add_agrees, multiply_subtract_agrees}
use Rattle.rv_float_modes.proofs.Agreeing.{narrowed_agrees, negated_multiply_add_agrees, negated_multiply_subtract_agrees, root_agrees}
use Rattle.rv_float_modes.proofs.Agreeing.{sub_agrees, word_agrees}
use Rattle.rv_float_modes.proofs.laws.to_the_nearest_operations_are_the_librarys.Goals as goal

pub returns-clause-add : goal.returns-clause-add
returns-clause-add g f a b = add_agrees f a b

pub returns-clause-sub : goal.returns-clause-sub
returns-clause-sub g f a b = sub_agrees f a b

pub returns-clause-mul : goal.returns-clause-mul
returns-clause-mul g f a b = mul_agrees f a b

pub returns-clause-div : goal.returns-clause-div
returns-clause-div g f a b = div_agrees f a b

pub returns-clause-multiply_add : goal.returns-clause-multiply_add
returns-clause-multiply_add g f a b c = multiply_add_agrees f a b c

pub returns-clause-multiply_subtract : goal.returns-clause-multiply_subtract
returns-clause-multiply_subtract g f a b c = multiply_subtract_agrees f a b c

pub returns-clause-negated_multiply_subtract : goal.returns-clause-negated_multiply_subtract
returns-clause-negated_multiply_subtract g f a b c = negated_multiply_subtract_agrees f a b c

pub returns-clause-negated_multiply_add : goal.returns-clause-negated_multiply_add
returns-clause-negated_multiply_add g f a b c = negated_multiply_add_agrees f a b c

pub returns-clause-narrowed : goal.returns-clause-narrowed
returns-clause-narrowed g a = narrowed_agrees a

pub returns-clause-word : goal.returns-clause-word
returns-clause-word g n = word_agrees n

pub returns-clause-root : goal.returns-clause-root
returns-clause-root g f a = root_agrees f a
