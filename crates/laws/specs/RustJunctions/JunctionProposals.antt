-- The proposals of junctions.rs as the Rust has them, an enum of two structs that carry their ports, and how a proposal of the definitions is read as one.
-- Assumes nothing.
use Rattle.std.specs.Prelude.{ℕ, zero, suc, ◌<◌, ◌≡◌, List}
use Rattle.definitions.specs.Grid.{Pair}
use Rattle.definitions.specs.Context.{Context}
use Rattle.definitions.specs.Junctions.{Proposal, is_reserved_port, anchored_regions}
use Rattle.laws.specs.SetLaws.Sets.{numbers_below}

--     struct UnionProposal { index: usize, pair: [u32; 2], anchored_regions: usize, ports: BTreeSet<usize> }
pub record UnionStruct : Type 0 where
  pub index : ℕ
  pub pair : Pair
  pub anchored_regions : ℕ
  pub ports : List ℕ

--     struct BridgeProposal { index: usize, pocket: u32, exterior: u32, ports: BTreeSet<usize> }
pub record BridgeStruct : Type 0 where
  pub index : ℕ
  pub pocket : ℕ
  pub exterior : ℕ
  pub ports : List ℕ

--     enum Proposal { Union(UnionProposal), Bridge(BridgeProposal) }
pub data ProposalEnum : Type 0 where
  union : UnionStruct → ProposalEnum
  bridge : BridgeStruct → ProposalEnum

abbrev pub index_of : ProposalEnum → ℕ
index_of (union x) = x.index
index_of (bridge x) = x.index

abbrev pub ports_of_enum : ProposalEnum → List ℕ
ports_of_enum (union x) = x.ports
ports_of_enum (bridge x) = x.ports

module _ (C : Context) where
  abbrev pub reserved_ports : Proposal → List ℕ
  reserved_ports p = numbers_below C.count (is_reserved_port C p)

  abbrev pub pair_of : Proposal → Pair
  pair_of p = record { lo = p.first; hi = p.second }

  abbrev pub enum_of : ℕ → Proposal → ProposalEnum
  enum_of zero p = union (record { index = p.index; pair = pair_of p; anchored_regions = anchored_regions C (pair_of p); ports = reserved_ports p })
  enum_of (suc k) p = bridge (record { index = p.index; pocket = p.first; exterior = p.second; ports = reserved_ports p })

  -- by kind
  abbrev pub as_enum : Proposal → ProposalEnum
  as_enum p = enum_of p.kind p

  -- what holds of every proposal of the definitions
  pub data Formed (p : Proposal) : Type 0 where
    of_union : p.kind ≡ 0 → p.first < p.second → p.index < C.count → Formed p
    of_bridge : p.kind ≡ 1 → p.index < C.count → Formed p

  pub index_below : (p : Proposal) → Formed p → p.index < C.count
  index_below p (of_union k o h) = h
  index_below p (of_bridge k h) = h
