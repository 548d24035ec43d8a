-- The flags of differences are those of sums with a negated pattern.
use Rattle.std.proofs.Common.{◌≡◌, ℕ, Bool, cond, ◌||◌, ap, ◌∙◌}
use Rattle.rv_floats.specs.Classes.{is_signaling}
use Rattle.rv_floats.specs.Signs.{sign_negated}
use Rattle.rv_float_flags.specs.Flags.{invalid}
use Rattle.rv_float_flags.specs.Operations.{add_flags, any_signaling, fused_flags, multiply_add_flags, multiply_subtract_flags}
use Rattle.rv_float_flags.specs.Operations.{negated_multiply_add_flags, negated_multiply_subtract_flags, sub_flags, sum_flags}
use Rattle.rv_float_flags.specs.declared.flags.Flags.{Flags}
use Rattle.rv_floats.proofs.Signs.{of_negated, signaling_negated}
use lib.Ieee.{Float, Format, neg, of_bits, unlike}

pub same_unlike : (s t a b : Bool) → s ≡ a → t ≡ b → unlike s t ≡ unlike a b
same_unlike s t a b e f = ap (λ (x : Bool). unlike x t) e ∙ ap (λ (x : Bool). unlike a x) f

second : (f : Format) (a b : ℕ) (g : Float → Flags)
    → cond (is_signaling f a || is_signaling f (sign_negated f b b)) invalid (g (of_bits f (sign_negated f b b)))
    ≡ cond (is_signaling f a || is_signaling f b) invalid (g (neg (of_bits f b)))
second f a b g =
    ap (λ (x : Bool). cond (is_signaling f a || x) invalid (g (of_bits f (sign_negated f b b)))) (signaling_negated f b)
    ∙ ap (λ (x : Float). cond (is_signaling f a || is_signaling f b) invalid (g x)) (of_negated f b)

pub sub_by_add : (f : Format) (a b : ℕ) → add_flags f a (sign_negated f b b) ≡ sub_flags f a b
sub_by_add f a b = second f a b (λ y. sum_flags f (of_bits f a) y)

third : (f : Format) (s : Bool) (c : ℕ) (g : Float → Flags)
    → cond (s || is_signaling f (sign_negated f c c)) invalid (g (of_bits f (sign_negated f c c)))
    ≡ cond (s || is_signaling f c) invalid (g (neg (of_bits f c)))
third f s c g =
    ap (λ (x : Bool). cond (s || x) invalid (g (of_bits f (sign_negated f c c)))) (signaling_negated f c)
    ∙ ap (λ (x : Float). cond (s || is_signaling f c) invalid (g x)) (of_negated f c)

first : (f : Format) (a b c : ℕ) (g : Float → Flags)
    → cond (is_signaling f (sign_negated f a a) || is_signaling f b || is_signaling f c) invalid (g (of_bits f (sign_negated f a a)))
    ≡ cond (is_signaling f a || is_signaling f b || is_signaling f c) invalid (g (neg (of_bits f a)))
first f a b c g =
    ap (λ (x : Bool). cond (x || is_signaling f b || is_signaling f c) invalid (g (of_bits f (sign_negated f a a)))) (signaling_negated f a)
    ∙ ap (λ (x : Float). cond (is_signaling f a || is_signaling f b || is_signaling f c) invalid (g x)) (of_negated f a)

pub subtract_by_add : (f : Format) (a b c : ℕ) → multiply_add_flags f a b (sign_negated f c c) ≡ multiply_subtract_flags f a b c
subtract_by_add f a b c = third f (any_signaling f a b) c (λ z. fused_flags f (of_bits f a) (of_bits f b) z)

pub negated_by_add : (f : Format) (a b c : ℕ) → multiply_add_flags f (sign_negated f a a) b c ≡ negated_multiply_subtract_flags f a b c
negated_by_add f a b c = first f a b c (λ x. fused_flags f x (of_bits f b) (of_bits f c))

pub both_by_add : (f : Format) (a b c : ℕ)
    → multiply_add_flags f (sign_negated f a a) b (sign_negated f c c) ≡ negated_multiply_add_flags f a b c
both_by_add f a b c =
    third f (any_signaling f (sign_negated f a a) b) c (λ z. fused_flags f (of_bits f (sign_negated f a a)) (of_bits f b) z)
    ∙ first f a b c (λ x. fused_flags f x (of_bits f b) (neg (of_bits f c)))
