-- Texts that are appended one after the other.
use Rattle.std.proofs.Common.{◌≡◌, ℕ, List, ◌++◌, ap, ◌∙◌, append_assoc}

pub two : (p q r a b : List ℕ) → q ≡ p ++ a → r ≡ q ++ b → r ≡ p ++ (a ++ b)
two p q r a b first second = second ∙ ap (λ (l : List ℕ). l ++ b) first ∙ append_assoc p a b

pub three : (p q r s a b c : List ℕ) → q ≡ p ++ a → r ≡ q ++ b → s ≡ r ++ c → s ≡ p ++ (a ++ (b ++ c))
three p q r s a b c first second third = two p q s a (b ++ c) first (two q r s b c second third)

pub four : (p q r s t a b c d : List ℕ) → q ≡ p ++ a → r ≡ q ++ b → s ≡ r ++ c → t ≡ s ++ d → t ≡ p ++ (a ++ (b ++ (c ++ d)))
four p q r s t a b c d first second third fourth = two p q t a (b ++ (c ++ d)) first (three q r s t b c d second third fourth)

pub five : (p q r s t u a b c d e : List ℕ) → q ≡ p ++ a → r ≡ q ++ b → s ≡ r ++ c → t ≡ s ++ d → u ≡ t ++ e → u ≡ p ++ (a ++ (b ++ (c ++ (d ++ e))))
five p q r s t u a b c d e first second third fourth fifth =
    two p q u a (b ++ (c ++ (d ++ e))) first (four q r s t u b c d e second third fourth fifth)

pub eight : (p q r s t u v w x a b c d e f g h : List ℕ) → q ≡ p ++ a → r ≡ q ++ b → s ≡ r ++ c → t ≡ s ++ d → u ≡ t ++ e → v ≡ u ++ f
    → w ≡ v ++ g → x ≡ w ++ h → x ≡ p ++ (a ++ (b ++ (c ++ (d ++ (e ++ (f ++ (g ++ h)))))))
eight p q r s t u v w x a b c d e f g h first second third fourth fifth sixth seventh eighth =
    five p q r s t x a b c d (e ++ (f ++ (g ++ h))) first second third fourth (four t u v w x e f g h fifth sixth seventh eighth)

pub twelve : (p q r s t u v w x y z y2 z2 a b c d e f g h i j k l : List ℕ) → q ≡ p ++ a → r ≡ q ++ b → s ≡ r ++ c → t ≡ s ++ d → u ≡ t ++ e
    → v ≡ u ++ f → w ≡ v ++ g → x ≡ w ++ h → y ≡ x ++ i → z ≡ y ++ j → y2 ≡ z ++ k → z2 ≡ y2 ++ l
    → z2 ≡ p ++ (a ++ (b ++ (c ++ (d ++ (e ++ (f ++ (g ++ (h ++ (i ++ (j ++ (k ++ l)))))))))))
twelve p q r s t u v w x y z y2 z2 a b c d e f g h i j k l first second third fourth fifth sixth seventh eighth ninth tenth eleventh twelfth =
    five p q r s t z2 a b c d (e ++ (f ++ (g ++ (h ++ (i ++ (j ++ (k ++ l))))))) first second third fourth
    (eight t u v w x y z y2 z2 e f g h i j k l fifth sixth seventh eighth ninth tenth eleventh twelfth)
