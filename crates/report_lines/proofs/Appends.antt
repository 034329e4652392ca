-- Texts that are written one after another.
use Rattle.std.proofs.Common.{◌≡◌, ℕ, List, ◌++◌, ◌∙◌, ap, append_assoc}

-- two
pub two_more : (o p q a b : List ℕ) → p ≡ o ++ a → q ≡ p ++ b → q ≡ o ++ (a ++ b)
two_more o p q a b e f = f ∙ ap (λ x. x ++ b) e ∙ append_assoc o a b

-- three
pub three_more : (o p q r a b c : List ℕ) → p ≡ o ++ a → q ≡ p ++ b → r ≡ q ++ c → r ≡ o ++ (a ++ (b ++ c))
three_more o p q r a b c e f g = two_more o p r a (b ++ c) e (two_more p q r b c f g)

-- four
pub four_more : (o p q r s a b c d : List ℕ) → p ≡ o ++ a → q ≡ p ++ b → r ≡ q ++ c → s ≡ r ++ d → s ≡ o ++ (a ++ (b ++ (c ++ d)))
four_more o p q r s a b c d e f g h = two_more o p s a (b ++ (c ++ d)) e (three_more p q r s b c d f g h)
