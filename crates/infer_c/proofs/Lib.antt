mod MimeLemmas
mod RangeLemmas
