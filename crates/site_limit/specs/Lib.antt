pub mod FewSites
