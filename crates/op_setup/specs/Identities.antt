-- Whose a node's folder is: the text that its file `omni.id` has.
use Rattle.std.specs.Prelude.{◌≡◌, ◌≤◌, ◌++◌, ℕ, List, length, codes, decimal}
use Rattle.op_types.specs.Ranges.{IsPid}
use Rattle.op_text.specs.Percent.{AllPlain}

-- the most bytes of a cluster's name
abbrev pub most_name : ℕ
most_name = 64

-- the name of a cluster: some letters, digits, dots or underscores
pub record IsClusterName (name : List ℕ) : Type 0 where
  pub some : 1 ≤ length name
  pub few : length name ≤ most_name
  pub plain : AllPlain name

-- the line of a folder: the id of its node, and the name of the cluster
abbrev pub identity_line : ℕ → List ℕ → List ℕ
identity_line id name = decimal id ++ codes " " ++ name ++ codes "\n"

-- what stands behind that line once the node has begun
abbrev pub begun_line : List ℕ
begun_line = codes "begun\n"

-- the text has the line of this node and cluster, and this behind it, if the node has begun
pub record IsIdentity (text : List ℕ) (id : ℕ) (name after : List ℕ) : Type 0 where
  pub id_in_range : IsPid id
  pub name_in_range : IsClusterName name
  pub is : text ≡ identity_line id name ++ after
