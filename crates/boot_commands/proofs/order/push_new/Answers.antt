use Rattle.std.proofs.Common.{◌≡◌, ◌∙◌, ◌+◌, ◌++◌, ◌∷◌, [], ℕ, List, ap, drop, sym}
use Rattle.boot_state.specs.Orders.{has_word}
use Rattle.boot_commands.specs.NewWords.{new_words}
use Rattle.boot_commands.proofs.NewWords.{word_passed, word_put}
use Rattle.boot_commands.proofs.order.push_new.Goals.{then-not-has_name+in_ok-word+in_ok-push, else-not-has_name}
use Rattle.boot_commands.proofs.order.push_new.Goals as goal

pub loop-word-preserved : goal.loop-word-preserved
loop-word-preserved c =
    let test : c.has_name.result ≡ has_word c.loop-word.order c.word-item.result = c.has_name.ensures ∙ (λ i. has_word (c.as_slice.ensures i) (c.as_bytes.ensures i)) in
    elim c.if-not-has_name.branch [
      | then-not-has_name+in_ok-word+in_ok-push w ↦
          word_put c.loop-word.order c.args.words.now _ c.loop-word.word-index c.word-item.result c.loop-word-test.true c.word-item.is c.loop-word.invariant c.if-not-has_name.order
          (sym test ∙ w.if-not-has_name.true)
          (w.order-is ∙ w.in_ok-push.ensures.ok ∙ ap (λ (x : List ℕ). c.loop-word.order ++ x ∷ []) w.in_ok-word.ensures)
      | else-not-has_name w ↦
          ap (λ (o : List (List ℕ)). o ++ new_words o (drop (c.loop-word.word-index + 1) c.args.words.now)) w.order-is
          ∙ word_passed c.loop-word.order c.args.words.now _ c.loop-word.word-index c.word-item.result c.loop-word-test.true c.word-item.is c.loop-word.invariant (sym test ∙ w.if-not-has_name.false)
    ]
