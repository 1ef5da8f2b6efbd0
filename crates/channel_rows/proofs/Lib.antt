pub mod ChannelLemmas
