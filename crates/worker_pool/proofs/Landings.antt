-- Stages of an exchange in two halves of a row.
use Rattle.std.proofs.Common.{◌≡◌, ◌≤◌, ◌&&◌, Bool, true, false, suc, List, [], ◌∷◌, ◌++◌, length, Result, Ok, Err, refl, sym, ap, ap₂}
use Rattle.std.proofs.Common.{subst, ◌∙◌, arith}
use Rattle.std.specs.Prelude.{IsTrue, OnErr, OnOk, is_ok}
use Rattle.std.specs.List.{AllZip}
use Rattle.std.proofs.lemmas.Bool.{false≢true}
use Rattle.std.proofs.lemmas.List.{length-map, map-append}
use Rattle.std.proofs.lemmas.Slice.Zip.{AllZip-long}
use Rattle.node_core.specs.Node.{NodeState, PreparedNode}
use Rattle.bsp_exchange.specs.Exchange.{states}
use Rattle.bsp_exchange.specs.Parts.{PartState, CanLand, CanPrepare, landed, with_part}
use Rattle.bsp_exchange.proofs.LandedRow.{as_many}
use Rattle.worker_pool.specs.declared.landing.Stage.{Stage}
use Rattle.worker_pool.specs.declared.landing.Stage.TheVariants.{Prepare, Land}
use Rattle.worker_pool.specs.Landings.{HaveLanded, IsDone, IsReadyFor}

length-landed : (parts : List PartState) (nodes : List NodeState) → length (landed parts nodes) ≡ length nodes
length-landed [] nodes = refl
length-landed (part ∷ parts) [] = refl
length-landed (part ∷ parts) (n ∷ nodes) = ap (λ k. suc k) (length-landed parts nodes)

landed-append : (first second : List PartState) (a b : List NodeState) → length first ≡ length a
    → landed (first ++ second) (a ++ b) ≡ landed first a ++ landed second b
landed-append [] second [] b long = refl
landed-append [] second (n ∷ a) b long = absurd (omega (arith, long))
landed-append (part ∷ first) second [] b long = absurd (omega (arith, long))
landed-append (part ∷ first) second (n ∷ a) b long =
    ap (λ rest. with_part part n ∷ rest) (landed-append first second a b (omega (arith, long)))

-- what holds at any answer
pub on_err_from : {T E P : Type 0} (r : Result T E) → P → OnErr r P
on_err_from (Ok x) holds = tt
on_err_from (Err e) holds = holds

-- what holds at Ok holds of an answer that is one
pub on_ok_where : {T E P : Type 0} (r : Result T E) → IsTrue (is_ok r) → OnOk r P → P
on_ok_where (Ok x) ok holds = holds
on_ok_where (Err e) ok holds = absurd (false≢true ok)

-- as many nodes as before
HaveLanded-length : (parts : List PartState) (old new : List PreparedNode) → HaveLanded parts old new → length new ≡ length old
HaveLanded-length parts old new done =
    sym (length-map new (λ (p : PreparedNode). p.node)) ∙ ap length done ∙ length-landed parts (states old)
    ∙ length-map old (λ (p : PreparedNode). p.node)

-- both halves, put together
HaveLanded-halves : (first second : List PartState) (here_old there_old here_new there_new whole : List PreparedNode)
    → AllZip CanLand first here_old → whole ≡ here_new ++ there_new → HaveLanded first here_old here_new
    → HaveLanded second there_old there_new → HaveLanded (first ++ second) (here_old ++ there_old) whole
HaveLanded-halves first second here_old there_old here_new there_new whole can together here there =
    let node = λ (p : PreparedNode). p.node in
    let long : length first ≡ length (states here_old) = as_many first here_old can ∙ sym (length-map here_old node) in
    ap states together
    ∙ map-append node here_new there_new
    ∙ ap₂ ◌++◌ here there
    ∙ sym (landed-append first second (states here_old) (states there_old) long)
    ∙ ap (landed (first ++ second)) (sym (map-append node here_old there_old))

-- the halves of two lists fit as the lists do
zip_first : {X Y : Type 0} (R : X → Y → Type 0) (first second : List X) (a b : List Y) → length first ≡ length a
    → AllZip R (first ++ second) (a ++ b) → AllZip R first a
zip_first R [] second [] b long all = tt
zip_first R [] second (y ∷ a) b long all = absurd (omega (arith, long))
zip_first R (x ∷ first) second [] b long all = absurd (omega (arith, long))
zip_first R (x ∷ first) second (y ∷ a) b long all = (all.0, zip_first R first second a b (omega (arith, long)) all.1)

zip_second : {X Y : Type 0} (R : X → Y → Type 0) (first second : List X) (a b : List Y) → length first ≡ length a
    → AllZip R (first ++ second) (a ++ b) → AllZip R second b
zip_second R [] second [] b long all = all
zip_second R [] second (y ∷ a) b long all = absurd (omega (arith, long))
zip_second R (x ∷ first) second [] b long all = absurd (omega (arith, long))
zip_second R (x ∷ first) second (y ∷ a) b long all = zip_second R first second a b (omega (arith, long)) all.1

zip_both : {X Y : Type 0} (R : X → Y → Type 0) (first second : List X) (a b : List Y) → AllZip R first a → AllZip R second b
    → AllZip R (first ++ second) (a ++ b)
zip_both R [] second [] b here there = there
zip_both R [] second (y ∷ a) b here there = absurd here
zip_both R (x ∷ first) second [] b here there = absurd here
zip_both R (x ∷ first) second (y ∷ a) b here there = (here.0, zip_both R first second a b here.1 there)

abbrev node_of : PreparedNode → NodeState
node_of p = p.node

-- ---- a stage, whichever it is

-- as many parts as nodes
pub ready_as_many : (stage : Stage) (parts : List PartState) (nodes : List PreparedNode) → IsReadyFor stage parts nodes
    → length parts ≡ length nodes
ready_as_many Prepare parts nodes ready = sym (AllZip-long CanPrepare parts (states nodes) ready) ∙ length-map nodes node_of
ready_as_many Land parts nodes ready = as_many parts nodes ready

-- the halves of a share are ready as the share is
pub ready_first : (stage : Stage) (first second : List PartState) (a b : List PreparedNode) → length first ≡ length a
    → IsReadyFor stage (first ++ second) (a ++ b) → IsReadyFor stage first a
ready_first Prepare first second a b long ready =
    zip_first CanPrepare first second (states a) (states b) (long ∙ sym (length-map a node_of))
    (subst (AllZip CanPrepare (first ++ second)) (map-append node_of a b) ready)
ready_first Land first second a b long ready = zip_first CanLand first second a b long ready

pub ready_second : (stage : Stage) (first second : List PartState) (a b : List PreparedNode) → length first ≡ length a
    → IsReadyFor stage (first ++ second) (a ++ b) → IsReadyFor stage second b
ready_second Prepare first second a b long ready =
    zip_second CanPrepare first second (states a) (states b) (long ∙ sym (length-map a node_of))
    (subst (AllZip CanPrepare (first ++ second)) (map-append node_of a b) ready)
ready_second Land first second a b long ready = zip_second CanLand first second a b long ready

-- as many nodes as before
pub IsDone-nodes : (stage : Stage) (parts : List PartState) (old : List PreparedNode) (parts' : List PartState) (new : List PreparedNode)
    (complete : Bool) → IsDone stage parts old parts' new complete → length new ≡ length old
IsDone-nodes Prepare parts old parts' new complete done = sym (length-map new node_of) ∙ ap length done.1 ∙ length-map old node_of
IsDone-nodes Land parts old parts' new complete done = HaveLanded-length parts old new done.1

-- and no more parts
pub IsDone-parts : (stage : Stage) (parts : List PartState) (old : List PreparedNode) (parts' : List PartState) (new : List PreparedNode)
    (complete : Bool) → IsDone stage parts old parts' new complete → length parts' ≤ length parts
IsDone-parts Prepare parts old parts' new complete done = omega (arith, ap length done.0)
IsDone-parts Land parts old parts' new complete done = omega (arith, ap length done.0)

both_true : (x y : Bool) → IsTrue (x && y) → IsTrue x × IsTrue y
both_true true y all = (refl, all)
both_true false y all = absurd (false≢true all)

-- both halves, put together
pub IsDone-halves : (stage : Stage) (first second : List PartState) (here_old there_old : List PreparedNode)
    (first' second' parts' : List PartState) (here_new there_new nodes' : List PreparedNode) (here_complete there_complete complete : Bool)
    → IsReadyFor stage first here_old → parts' ≡ first' ++ second' → nodes' ≡ here_new ++ there_new
    → complete ≡ (here_complete && there_complete) → IsDone stage first here_old first' here_new here_complete
    → IsDone stage second there_old second' there_new there_complete
    → IsDone stage (first ++ second) (here_old ++ there_old) parts' nodes' complete
IsDone-halves Prepare first second here_old there_old first' second' parts' here_new there_new nodes' here_complete there_complete complete
    ready parts nodes whole here there = (
      parts ∙ ap₂ ◌++◌ here.0 there.0,
      ap states nodes ∙ map-append node_of here_new there_new ∙ ap₂ ◌++◌ here.1 there.1 ∙ sym (map-append node_of here_old there_old),
      λ all.
          let each = both_true here_complete there_complete (subst IsTrue whole all) in
          rw (parts, nodes) (zip_both CanLand first' second' here_new there_new (here.2 each.0) (there.2 each.1)),
    )
IsDone-halves Land first second here_old there_old first' second' parts' here_new there_new nodes' here_complete there_complete complete
    ready parts nodes whole here there = (
      parts ∙ ap₂ ◌++◌ here.0 there.0,
      HaveLanded-halves first second here_old there_old here_new there_new nodes' ready nodes here.1 there.1,
    )
