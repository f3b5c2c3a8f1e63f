-- Laws of bids that have one run of cells each. Assumes nothing.
pub mod ScanLaws
pub mod PrefixLaws
pub mod CoverLaws
pub mod SplitLaws
pub mod PayLaws
pub mod SuffixLaws
pub mod AwardLaws
pub mod StaysLaws
pub mod BidsLaws
pub mod MirrorLaws
