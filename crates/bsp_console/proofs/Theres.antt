-- A command about one node, behind whose reply stands where the node is then.
use Rattle.std.proofs.Common.{◌≡◌, ◌∙◌, ℕ, Bool, true, false, List, Option, Some, None, sym}
use Rattle.std.specs.Prelude.{is_some}
use Rattle.std.proofs.lemmas.Bool.{false≢true, true≢false}
use Rattle.bsp_debug.specs.declared.error.DebugError.{DebugError}
use Rattle.bsp_debug.specs.Debugger.{DebuggerState}
use Rattle.bsp_console.specs.Talk.{DoesOrRefuses}

-- where it is refused, the refusal is that of the command
pub refuses-same : (fault : Option DebugError) (done other : Type 0) (refused new : DebuggerState) (text : List ℕ) (is : Bool)
    → is ≡ is_some fault → is ≡ true
    → DoesOrRefuses fault done refused new text → DoesOrRefuses fault other refused new text
refuses-same (Some e) done other refused new text is same so told = told
refuses-same None done other refused new text is same so told = absurd (false≢true (sym same ∙ so))

-- and where it is not, more is known
pub does-more : (fault : Option DebugError) (done other : Type 0) (refused new : DebuggerState) (text more : List ℕ) (is : Bool)
    → is ≡ is_some fault → is ≡ false
    → (done → other) → DoesOrRefuses fault done refused new text → DoesOrRefuses fault other refused new more
does-more None done other refused new text more is same so then told = then told
does-more (Some e) done other refused new text more is same so then told = absurd (true≢false (sym same ∙ so))
