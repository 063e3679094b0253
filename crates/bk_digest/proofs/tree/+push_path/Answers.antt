use Rattle.std.proofs.Common.{◌≡◌, List, ℕ, ◌++◌, ◌-◌, [], ◌∷◌, take, drop, refl, sym, ap, ◌∙◌, append_assoc}
use Rattle.std.proofs.lemmas.List.{append-nil}
use Rattle.bk_digest.specs.Tree.{path_of, root_of}
use Rattle.bk_digest.proofs.Paths.{path_alone, path_left, path_right}
use Rattle.bk_digest.proofs.tree.+push_path.Goals as goal

pub returns-then-leaves-eq1 : goal.returns-then-leaves-eq1
returns-then-leaves-eq1 g t c =
    rw (path_alone c.args.leaves.now c.args.i c.if-leaves-eq1.true c.requires) (sym (append-nil c.args.path.now.items))

-- the path so far, the path within the half, and the other half's root
joined : (front inner : List (List ℕ)) (last : List ℕ) (whole now : List (List ℕ)) → whole ≡ inner ++ last ∷ [] → now ≡ (front ++ inner) ++ last ∷ [] → now ≡ front ++ whole
joined front inner last whole now e h = h ∙ append_assoc front inner (last ∷ []) ∙ ap (λ (x : List (List ℕ)). front ++ x) (sym e)

pub returns-in_ok-push : goal.returns-in_ok-push
returns-in_ok-push g t c =
    joined c.args.path.now.items (path_of (take c.split_size-split.result c.args.leaves.now) c.args.i) (root_of (drop c.split_size-split.result c.args.leaves.now)) (path_of c.args.leaves.now c.args.i) c.push.new.self.items
    (path_left c.args.leaves.now c.split_size-split.result c.args.i c.split_size-split.ensures c.if-i-split.true)
    (c.in_ok-push.ensures.items ∙ rw (c.in_ok-push_path.ensures, c.subtree_root.ensures, c.split_at.ensures.front, c.split_at.ensures.back) refl)

pub returns-in_ok-push-2 : goal.returns-in_ok-push-2
returns-in_ok-push-2 g t c =
    joined c.args.path.now.items (path_of (drop c.split_size-split.result c.args.leaves.now) (c.args.i - c.split_size-split.result)) (root_of (take c.split_size-split.result c.args.leaves.now)) (path_of c.args.leaves.now c.args.i) c.push-else-i-split.new.self.items
    (path_right c.args.leaves.now c.split_size-split.result c.args.i c.split_size-split.ensures c.if-i-split.false)
    (c.in_ok-push-2.ensures.items ∙ rw (c.in_ok-push_path-2.ensures, c.subtree_root-else-i-split.ensures, c.split_at.ensures.front, c.split_at.ensures.back) refl)
